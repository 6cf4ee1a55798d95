use Rattle.std.proofs.Common.{map}
use Rattle.std.specs.Arc.{arc_value}
use Rattle.clip_merge.proofs.Runs.{Walked}
use Rattle.clip_merge.proofs.levels.plan.Given as goal

abbrev pub invariant-loop-at : goal.invariant-loop-at
invariant-loop-at g l = Walked (map arc_value l.segments) l.at l.count l.last
