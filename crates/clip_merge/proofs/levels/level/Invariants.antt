use Rattle.clip_merge.proofs.Division.{Divided}
use Rattle.clip_merge.proofs.levels.level.Given as goal

abbrev pub invariant-loop-rest : goal.invariant-loop-rest
invariant-loop-rest l = Divided l.len l.level l.rest

abbrev pub decreases-loop-rest : goal.decreases-loop-rest
decreases-loop-rest l = l.rest
