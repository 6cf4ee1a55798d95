use Rattle.std.proofs.Common.{◌≡◌, ◌<◌, ℕ, Some, slice_get}
use Rattle.clip_desk.specs.Seats.{SeatIs, IsAccounted}
use Rattle.clip_desk.proofs.desk.all_agree.Given as goal

abbrev pub invariant-loop-seat : goal.invariant-loop-seat
invariant-loop-seat g l = (k : ℕ) (s : SeatIs) → k < l.seat-index → slice_get l.seats k ≡ Some s
    → IsAccounted l.tag l.locked.registry.history s
