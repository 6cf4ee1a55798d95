use Rattle.std.proofs.Common.{arith}
use Rattle.std.proofs.lemmas.Grind.{common_steps}
use Rattle.clip_segment.proofs.labels.add_flagged_copies.Goals as goal

-- found by this tactic: it stands here so that no other is tried before it
pub returns : goal.returns
returns c = grind (arith, common_steps)
