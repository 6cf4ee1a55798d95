use Rattle.std.proofs.Common.{arith}
use Rattle.std.proofs.lemmas.Grind.{common_steps}
use Rattle.clip_segment.proofs.kept_terms.any_flag.Goals as goal

-- found by this tactic: they stand here so that no other is tried before it
pub returns-then-flag_at : goal.returns-then-flag_at
returns-then-flag_at c = grind (arith, common_steps)

pub loop-position-preserved : goal.loop-position-preserved
loop-position-preserved c = grind (arith, common_steps)

pub returns : goal.returns
returns c = grind (arith, common_steps)
