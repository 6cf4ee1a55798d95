-- Answered here, so that a wrong body is refused at once.
use Rattle.std.proofs.Common.{rules}
use Rattle.clip_cause.proofs.limits.draft_fault.Goals as goal

pub returns-in-Some : goal.returns-in-Some
returns-in-Some c = search rules
