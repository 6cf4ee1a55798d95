use Rattle.std.proofs.Common.{arith}
use Rattle.std.proofs.lemmas.Grind.{common_steps}
use Rattle.clip_segment.proofs.building.with_keys.Goals as goal

-- found by this tactic: they stand here so that no other is tried before it
pub loop-query-preserved : goal.loop-query-preserved
loop-query-preserved c = grind (arith, common_steps)

pub returns : goal.returns
returns c = grind (arith, common_steps)
