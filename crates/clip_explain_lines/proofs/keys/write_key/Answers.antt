-- Answered here, so that a wrong body is refused at once.
use Rattle.std.proofs.Common.{rules}
use Rattle.clip_explain_lines.proofs.keys.write_key.Goals as goal

pub returns-in-Front : goal.returns-in-Front
returns-in-Front c = search rules
