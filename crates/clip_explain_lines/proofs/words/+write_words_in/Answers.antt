use Rattle.std.proofs.Common.{arith}
use Rattle.std.proofs.lemmas.Grind.{common_steps}
use Rattle.clip_explain_lines.proofs.words.+write_words_in.Goals as goal

pub loop-child-preserved : goal.loop-child-preserved
loop-child-preserved t c = grind (arith, common_steps)
