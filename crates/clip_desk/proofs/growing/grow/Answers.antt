use Rattle.std.proofs.Common.{rules}
use Rattle.clip_desk.proofs.growing.grow.Goals as goal

-- proved by search alone: they stand here so that a wrong body is refused at once
pub returns-clause-registrar : goal.returns-clause-registrar
returns-clause-registrar g c = search rules

pub returns-clause-view : goal.returns-clause-view
returns-clause-view g c = search rules
