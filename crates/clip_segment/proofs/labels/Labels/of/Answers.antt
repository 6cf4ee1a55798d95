use Rattle.std.proofs.Common.{arith}
use Rattle.std.proofs.lemmas.Grind.{common_steps}
use Rattle.clip_segment.proofs.labels.Labels.of.Goals as goal

-- found by this tactic: they stand here so that no other is tried before it
pub loop-entry-preserved : goal.loop-entry-preserved
loop-entry-preserved c = grind (arith, common_steps)

pub returns-clause-ids : goal.returns-clause-ids
returns-clause-ids c = grind (arith, common_steps)

pub returns-clause-heard : goal.returns-clause-heard
returns-clause-heard c = grind (arith, common_steps)
