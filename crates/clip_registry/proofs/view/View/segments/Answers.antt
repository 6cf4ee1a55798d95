use Rattle.std.proofs.Common.{sym, ap, subst, ◌∙◌, rules}
use Rattle.clip_model.specs.History.{IsLegal}
use Rattle.clip_model.proofs.Legal.{legal_beginning}
use Rattle.clip_registry.specs.RegistryState.{RegistryState, IsWhole}
use Rattle.clip_registry.specs.Steps.State.{state_or_beginning}
use Rattle.clip_registry.proofs.Whole.{whole_beginning}
use Rattle.clip_registry.proofs.view.View.segments.Goals as goal

pub returns-in-None-clause-whole : goal.returns-in-None-clause-whole
returns-in-None-clause-whole g c =
    subst IsWhole (ap (state_or_beginning c.self.inside.keeps) (sym c.in-None.is)
    ∙ c.self.view_is) (whole_beginning c.self.inside.keeps)

pub returns-in-None-clause-legal : goal.returns-in-None-clause-legal
returns-in-None-clause-legal g c =
    subst (λ (s : RegistryState). IsLegal s.history) (ap (state_or_beginning c.self.inside.keeps) (sym c.in-None.is)
    ∙ c.self.view_is) legal_beginning

-- answered here, so that a wrong body is refused at once
pub returns-in-Some-clause-segments : goal.returns-in-Some-clause-segments
returns-in-Some-clause-segments g c = search rules
