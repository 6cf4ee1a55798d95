use Rattle.std.proofs.Common.{arith}
use Rattle.std.proofs.lemmas.Grind.{common_steps}
use Rattle.clip_segment.proofs.index_selecting.new_positions.Goals as goal

-- found by this tactic: they stand here so that no other is tried before it
pub overflow_add-next : goal.overflow_add-next
overflow_add-next c = grind (arith, common_steps)

pub loop-flag-preserved : goal.loop-flag-preserved
loop-flag-preserved c = grind (arith, common_steps)

pub returns : goal.returns
returns c = grind (arith, common_steps)
