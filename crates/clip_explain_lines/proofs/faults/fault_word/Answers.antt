-- Answered here, so that a wrong body is refused at once.
use Rattle.std.proofs.Common.{rules}
use Rattle.clip_explain_lines.proofs.faults.fault_word.Goals as goal

pub returns-in-LeftOut : goal.returns-in-LeftOut
returns-in-LeftOut c = search rules
