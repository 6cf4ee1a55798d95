use Rattle.std.proofs.Common.{arith}
use Rattle.std.proofs.lemmas.Grind.{common_steps}
use Rattle.clip_segment.proofs.term_lists.pack_lists.Goals as goal

-- found by this tactic: they stand here so that no other is tried before it
pub loop-list-preserved : goal.loop-list-preserved
loop-list-preserved c = grind (arith, common_steps)

pub returns : goal.returns
returns c = grind (arith, common_steps)
