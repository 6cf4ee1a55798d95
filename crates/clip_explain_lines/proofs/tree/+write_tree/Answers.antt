use Rattle.std.proofs.Common.{arith}
use Rattle.std.proofs.lemmas.Grind.{common_steps}
use Rattle.clip_explain_lines.proofs.tree.+write_tree.Goals as goal

pub loop-occur-preserved : goal.loop-occur-preserved
loop-occur-preserved t c = grind (arith, common_steps)
