-- Answered here, so that a wrong body is refused at once.
use Rattle.std.proofs.Common.{rules}
use Rattle.clip_syntax.proofs.build.beside_and.Goals as goal

pub returns-in-Should : goal.returns-in-Should
returns-in-Should c = search rules
