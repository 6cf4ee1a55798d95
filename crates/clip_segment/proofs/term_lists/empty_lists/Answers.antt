use Rattle.std.proofs.Common.{arith}
use Rattle.std.proofs.lemmas.Grind.{common_steps}
use Rattle.clip_segment.proofs.term_lists.empty_lists.Goals as goal

-- found by this tactic: it stands here so that no other is tried before it
pub loop-preserved : goal.loop-preserved
loop-preserved c = grind (arith, common_steps)
