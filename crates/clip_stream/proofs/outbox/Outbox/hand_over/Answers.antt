-- Answered here, so that a wrong body is refused at once.
use Rattle.std.proofs.Common.{rules}
use Rattle.clip_stream.proofs.outbox.Outbox.hand_over.Goals as goal

pub returns-clause-err : goal.returns-clause-err
returns-clause-err g c = search rules
