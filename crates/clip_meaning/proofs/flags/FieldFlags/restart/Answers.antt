use Rattle.std.proofs.Common.{rules}
use Rattle.clip_meaning.proofs.flags.FieldFlags.restart.Goals as goal

pub returns-in_err-resize-clause-err : goal.returns-in_err-resize-clause-err
returns-in_err-resize-clause-err c = search rules
