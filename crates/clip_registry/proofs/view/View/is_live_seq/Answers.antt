use Rattle.std.proofs.Common.{sym, ap, ◌∙◌}
use Rattle.clip_model.specs.History.{is_live}
use Rattle.clip_registry.specs.RegistryState.{RegistryState}
use Rattle.clip_registry.specs.Steps.State.{state_or_beginning}
use Rattle.clip_registry.proofs.Numbering.{none_live}
use Rattle.clip_registry.proofs.view.View.is_live_seq.Goals as goal

pub returns-in-None : goal.returns-in-None
returns-in-None g c = sym (none_live c.args.seq)
    ∙ ap (λ (s : RegistryState). is_live s.history c.args.seq)
    (ap (state_or_beginning c.self.inside.keeps) (sym c.in-None.is) ∙ c.self.view_is)
