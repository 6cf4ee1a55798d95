-- Answered here, so that a wrong body is refused at once.
use Rattle.std.proofs.Common.{rules}
use Rattle.clip_explain_lines.proofs.tree.write_end.Goals as goal

pub returns-in-Without : goal.returns-in-Without
returns-in-Without c = search rules
