-- Answered here, so that a wrong body is refused at once.
use Rattle.std.proofs.Common.{rules}
use Rattle.clip_desk.proofs.seat.Seat.meet.Goals as goal

pub returns-clause-shorter : goal.returns-clause-shorter
returns-clause-shorter g c = search rules

pub returns-clause-longer : goal.returns-clause-longer
returns-clause-longer g c = search rules
