use Rattle.std.proofs.Common.{rules}
use Rattle.clip_engine.proofs.kept.Kept.found.Goals as goal

pub returns-in-Ok-clause-ok : goal.returns-in-Ok-clause-ok
returns-in-Ok-clause-ok c = search rules
