-- Answered here, so that a wrong body is refused at once.
use Rattle.std.proofs.Common.{rules}
use Rattle.clip_cause.proofs.shape.query_fault.Goals as goal

pub returns-in-None : goal.returns-in-None
returns-in-None c = search rules
