use Rattle.std.proofs.Common.{rules}
use Rattle.clip_desk.proofs.desk.Desk.purge.Goals as goal

pub returns-clause-purged : goal.returns-clause-purged
returns-clause-purged g c = search rules
