use Rattle.std.proofs.Common.{sym, ap, subst}
use Rattle.clip_model.specs.History.{IsLegal}
use Rattle.clip_model.proofs.Legal.{legal_beginning}
use Rattle.clip_registry.specs.RegistryState.{RegistryState}
use Rattle.clip_registry.specs.Steps.State.{state_or_beginning}
use Rattle.clip_registry.proofs.held.number_of.Goals as goal

pub returns-in-None-clause-legal : goal.returns-in-None-clause-legal
returns-in-None-clause-legal g c =
    λ keeps. subst (λ (s : RegistryState). IsLegal s.history) (ap (state_or_beginning keeps) (sym c.in-None.is))
    legal_beginning
