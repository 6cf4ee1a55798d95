use Rattle.std.proofs.Common.{rules}
use Rattle.clip_engine.proofs.engine.Engine.delete.Goals as goal

pub returns-clause-deleted : goal.returns-clause-deleted
returns-clause-deleted c = search rules
