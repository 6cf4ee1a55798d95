use Rattle.std.proofs.Common.{◌≡◌, ℕ, subst, sym, map, ap, ◌∙◌}
use Rattle.std.proofs.lemmas.List.Elements.{same_from_all_zip}
use Rattle.std.specs.Arc.{arc_value}
use Rattle.clip_model.specs.History.{replay}
use Rattle.clip_registry.specs.RegistryState.{RegistryState}
use Rattle.clip_registry.specs.Steps.LiveFlags.{flags_in}
use Rattle.clip_registry.specs.Steps.Merging.{AreKept}
use Rattle.clip_registry.specs.Steps.Log.{Log}
use Rattle.clip_registry.specs.Steps.Roster.{Roster}
use Rattle.clip_registry.specs.Steps.State.{IsConsistent, state_of}
use Rattle.clip_registry.proofs.Kept.{consistent_kept}
use Rattle.clip_registry.proofs.state.State.with_segments.Goals as goal

pub invariant_of-next : goal.invariant_of-next
invariant_of-next g c =
    let segments = map arc_value c.args.segments.items in
    let counts : c.in_ok-clone-3.field-0.items ≡ c.self.inside.counts.items =
    same_from_all_zip (λ (x y : ℕ). y ≡ x) _ _ c.in_ok-clone-3.ensures.cases.0 (λ x y e. e) in
    let is : AreKept (state_of c.self.inside) segments =
    subst (λ (s : RegistryState). AreKept s segments) (sym c.self.view_is) c.requires.kept in
    let kept : IsConsistent (record (state_of c.self.inside) { segments = segments }) c.self.inside.roster
    c.self.inside.counts.items =
    consistent_kept (state_of c.self.inside) c.self.inside.roster c.self.inside.counts.items segments
    c.self.invariant.0 is in
    let registry : c.in_ok-clone-2.field-0.registry ≡ replay c.args.self.now.history =
    ap (λ (r : Roster). r.registry) c.in_ok-clone-2.ensures.cases ∙ c.self.invariant.0.registry
    ∙ ap (λ (s : RegistryState). replay s.history) c.self.view_is in (
      subst (λ (l : Log). IsConsistent (record { segments = segments; history = l.history; keeps = l.keeps })
          c.in_ok-clone-2.field-0 c.in_ok-clone-3.field-0.items) (sym c.in_ok-clone.ensures.cases)
          (subst (λ (r : Roster). IsConsistent (record (state_of c.self.inside) { segments = segments }) r
          c.in_ok-clone-3.field-0.items) (sym c.in_ok-clone-2.ensures.cases)
          (subst (IsConsistent (record (state_of c.self.inside) { segments = segments }) c.self.inside.roster)
          (sym counts) kept)),
      c.requires.flags ∙ ap (λ m. flags_in m segments) (sym registry),
    )
