use Rattle.std.proofs.Common.{rules}
use Rattle.clip_run.proofs.own_registrar.OwnRegistrar.new.Goals as goal

pub returns-clause-registrar : goal.returns-clause-registrar
returns-clause-registrar c = search rules
