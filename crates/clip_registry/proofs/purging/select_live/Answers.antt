use Rattle.std.proofs.Common.{rules}
use Rattle.clip_registry.proofs.purging.select_live.Goals as goal

pub returns-clause-entries : goal.returns-clause-entries
returns-clause-entries g c = search rules
