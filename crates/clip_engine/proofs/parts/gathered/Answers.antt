use Rattle.std.proofs.Common.{rules}
use Rattle.clip_engine.proofs.parts.gathered.Goals as goal

pub returns-in-Ok-clause-kept : goal.returns-in-Ok-clause-kept
returns-in-Ok-clause-kept c = search rules
