use Rattle.std.proofs.Common.{sym, ap, subst}
use Rattle.clip_model.specs.History.{IsLegal}
use Rattle.clip_model.proofs.Legal.{legal_beginning}
use Rattle.clip_registry.specs.RegistryState.{RegistryState, IsWhole}
use Rattle.clip_registry.specs.Steps.State.{state_or_beginning}
use Rattle.clip_registry.proofs.Whole.{whole_beginning}
use Rattle.clip_registry.proofs.held.history_of.Goals as goal

pub returns-in-None-clause-whole : goal.returns-in-None-clause-whole
returns-in-None-clause-whole g c =
    λ keeps. subst IsWhole (ap (state_or_beginning keeps) (sym c.in-None.is)) (whole_beginning keeps)

pub returns-in-None-clause-legal : goal.returns-in-None-clause-legal
returns-in-None-clause-legal g c =
    λ keeps. subst (λ (s : RegistryState). IsLegal s.history) (ap (state_or_beginning keeps) (sym c.in-None.is))
    legal_beginning
