-- Answered here, so that a wrong body is refused at once.
use Rattle.std.proofs.Common.{rules}
use Rattle.clip_engine.proofs.house.HouseAudience.has.Goals as goal

pub returns-else-eq : goal.returns-else-eq
returns-else-eq c = search rules
