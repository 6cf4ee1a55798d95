use Rattle.std.proofs.Common.{subst}
use Rattle.clip_registry.specs.RegistryState.{IsWhole}
use Rattle.clip_registry.proofs.registrar.Registrar.history.Goals as goal

pub returns-clause-whole : goal.returns-clause-whole
returns-clause-whole g c = subst IsWhole c.self.view_is (c.history_of.ensures.whole c.self.inside.keeps)
