use Rattle.std.proofs.Common.{◌≡◌, map, take}
use Rattle.clip_plan.specs.Plan.{renumbered}
use Rattle.clip_plan.proofs.renaming.renumbered_run.Given as goal

abbrev pub invariant-loop-number : goal.invariant-loop-number
invariant-loop-number l = l.new.items ≡ map (renumbered l.numbers) (take l.number-index l.run)
