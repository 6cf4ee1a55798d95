-- Answered here, so that a wrong body is refused at once.
use Rattle.std.proofs.Common.{rules}
use Rattle.clip_cause.proofs.limits.limit_fault.Goals as goal

pub returns-in-Clear : goal.returns-in-Clear
returns-in-Clear c = search rules
