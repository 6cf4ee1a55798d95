use Rattle.std.proofs.Common.{◌≡◌, map, take}
use Rattle.clip_plan.proofs.Copies.{seen}
use Rattle.clip_plan.proofs.copy.+copy_query.Given as goal

abbrev pub invariant-loop-occur : goal.invariant-loop-occur
invariant-loop-occur l = map seen l.copies.items ≡ map seen (take l.occur-index l.occur-items)
