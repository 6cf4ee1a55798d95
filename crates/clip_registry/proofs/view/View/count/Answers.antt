use Rattle.std.proofs.Common.{sym, ap, ◌∙◌, rules}
use Rattle.std.specs.FinMap as finite
use Rattle.std.specs.FinMap.{len-empty}
use Rattle.clip_words.specs.Order.{bytes_cmp}
use Rattle.clip_model.specs.History.{Registered, replay}
use Rattle.clip_registry.specs.RegistryState.{RegistryState}
use Rattle.clip_registry.specs.Steps.State.{state_or_beginning}
use Rattle.clip_registry.proofs.view.View.count.Goals as goal

pub returns-in-None : goal.returns-in-None
returns-in-None g c = sym (len-empty bytes_cmp Registered)
    ∙ ap (λ (s : RegistryState). finite.len (replay s.history))
    (ap (state_or_beginning c.self.inside.keeps) (sym c.in-None.is) ∙ c.self.view_is)

pub returns-in-Some : goal.returns-in-Some
returns-in-Some g c = search rules
