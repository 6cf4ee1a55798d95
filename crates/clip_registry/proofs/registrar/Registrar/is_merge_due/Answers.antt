use Rattle.std.proofs.Common.{map, sym, ap, subst, ◌∙◌}
use Rattle.std.specs.Arc.{arc_value}
use Rattle.clip_merge.specs.Price.{HavePaid}
use Rattle.clip_registry.specs.RegistryState.{RegistryState}
use Rattle.clip_registry.specs.Steps.State.{state_or_beginning}
use Rattle.clip_registry.proofs.registrar.Registrar.is_merge_due.Goals as goal

pub returns-in-None : goal.returns-in-None
returns-in-None g c =
    let none = ap (map arc_value) (c.deref-in-None.ensures.value ∙ c.new-none.ensures.items)
    ∙ ap (λ (s : RegistryState). s.segments)
    (ap (state_or_beginning c.self.inside.keeps) (sym c.in-None.is) ∙ c.self.view_is) in
    subst (λ segments. HavePaid c.args.payment.now c.is_due-in-None.new.self segments c.args.matched
    c.is_due-in-None.result)
    none c.is_due-in-None.ensures
