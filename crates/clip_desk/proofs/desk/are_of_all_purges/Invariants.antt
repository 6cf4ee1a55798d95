use Rattle.std.proofs.Common.{◌≡◌, ◌+◌, take}
use Rattle.clip_desk.specs.Seats.{purges_with}
use Rattle.clip_desk.proofs.desk.are_of_all_purges.Given as goal

-- what is left are the purges of the seats to come
abbrev pub invariant-loop-seat : goal.invariant-loop-seat
invariant-loop-seat g l = l.left + purges_with (take l.seat-index l.seats) ≡ l.told
