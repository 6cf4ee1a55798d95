-- Answered here, so that a wrong body is refused at once.
use Rattle.std.proofs.Common.{rules}
use Rattle.clip_remarks.proofs.sort.is_comma.Goals as goal

pub returns-in_default : goal.returns-in_default
returns-in_default c = search rules
