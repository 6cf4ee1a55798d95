-- Answered here, so that a wrong body is refused at once.
use Rattle.std.proofs.Common.{rules}
use Rattle.clip_command_line.proofs.listeners.named.Goals as goal

pub returns-clause-under : goal.returns-clause-under
returns-clause-under c = search rules
