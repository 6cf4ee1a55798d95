-- Answered here, so that a wrong body is refused at once.
use Rattle.std.proofs.Common.{rules}
use Rattle.clip_syntax.proofs.parser.begins_left_out.Goals as goal

pub returns-in-Other : goal.returns-in-Other
returns-in-Other c = search rules
