use Rattle.std.proofs.Common.{arith}
use Rattle.std.proofs.lemmas.Grind.{common_steps}
use Rattle.clip_segment.proofs.building.add_others.Goals as goal

-- found by this tactic: they stand here so that no other is tried before it
pub loop-key-preserved : goal.loop-key-preserved
loop-key-preserved c = grind (arith, common_steps)

pub returns : goal.returns
returns c = grind (arith, common_steps)
