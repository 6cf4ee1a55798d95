-- Answered here, so that a wrong body is refused at once.
use Rattle.std.proofs.Common.{rules}
use Rattle.clip_engine.proofs.engine.Engine.clear.Goals as goal

pub returns-clause-cleared : goal.returns-clause-cleared
returns-clause-cleared c = search rules

pub returns-clause-counted : goal.returns-clause-counted
returns-clause-counted c = search rules

pub returns-clause-refused : goal.returns-clause-refused
returns-clause-refused c = search rules
