use Rattle.std.proofs.Common.{rules}
use Rattle.clip_run.proofs.own_registrar.OwnRegistrarRegistry.purge_dead.Goals as goal

pub returns-clause-purged : goal.returns-clause-purged
returns-clause-purged c = search rules
