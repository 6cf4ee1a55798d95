-- Answered here, so that a wrong body is refused at once.
use Rattle.std.proofs.Common.{rules}
use Rattle.clip_front.proofs.answer.is_here.Goals as goal

pub returns-in-Some : goal.returns-in-Some
returns-in-Some g c = search rules
