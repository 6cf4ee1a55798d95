use Rattle.std.proofs.Common.{sym, ap, ◌∙◌}
use Rattle.std.specs.Option.{option_map}
use Rattle.std.specs.FinMap as finite
use Rattle.std.specs.FinMap.{get-empty}
use Rattle.clip_words.specs.Order.{bytes_cmp}
use Rattle.clip_model.specs.History.{Registered, replay}
use Rattle.clip_registry.specs.RegistryState.{RegistryState}
use Rattle.clip_registry.specs.Steps.State.{state_or_beginning}
use Rattle.clip_registry.proofs.view.View.text_of.Goals as goal

pub returns-in-None : goal.returns-in-None
returns-in-None g c =
    ap (option_map (λ (r : Registered). r.standing.text)) (sym (get-empty {X = Registered} bytes_cmp c.args.id.now))
    ∙ ap (λ (s : RegistryState).
    option_map (λ (r : Registered). r.standing.text) (finite.get (replay s.history) c.args.id.now))
    (ap (state_or_beginning c.self.inside.keeps) (sym c.in-None.is) ∙ c.self.view_is)
