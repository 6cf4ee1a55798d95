-- Answered here, so that a wrong body is refused at once.
use Rattle.std.proofs.Common.{rules}
use Rattle.clip_cause.proofs.wrong.Wrong.refusal.Goals as goal

pub returns-in-TooManyQueries : goal.returns-in-TooManyQueries
returns-in-TooManyQueries c = search rules
