-- Answered here, so that a wrong body is refused at once.
use Rattle.std.proofs.Common.{rules}
use Rattle.clip_syntax.proofs.build.Builder.read.Goals as goal

pub returns-in_ok-field-in-Plain : goal.returns-in_ok-field-in-Plain
returns-in_ok-field-in-Plain c = search rules
