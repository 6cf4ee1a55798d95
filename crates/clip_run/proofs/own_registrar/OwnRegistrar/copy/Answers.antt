use Rattle.std.proofs.Common.{rules}
use Rattle.clip_run.proofs.own_registrar.OwnRegistrar.copy.Goals as goal

pub returns : goal.returns
returns c = search rules
