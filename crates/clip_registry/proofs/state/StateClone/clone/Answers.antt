use Rattle.std.proofs.Common.{◌≡◌, ℕ, Bool, List, sym, subst, ◌∙◌, map}
use Rattle.std.proofs.lemmas.List.Elements.{same_from_all_zip}
use Rattle.std.specs.Arc.{arc_value}
use Rattle.clip_registry.specs.Steps.LiveFlags.{flags_in}
use Rattle.clip_registry.specs.Steps.State.{IsConsistent, state_of}
use Rattle.clip_registry.specs.Steps.Roster.{Roster}
use Rattle.clip_standing.proofs.Clones.{map_shared}
use Rattle.clip_registry.proofs.state.StateClone.clone.Given.{Over}
use Rattle.clip_registry.proofs.state.StateClone.clone.Goals as goal

same_state : (g : Over) (c : goal.In_ok-clone-5 g) → record {
  segments = map arc_value c.in_ok-clone.field-0.items;
  history =
      c.in_ok-clone-2.field-0.history;
  keeps = c.in_ok-clone-2.field-0.keeps;
} ≡ state_of c.self.inside
same_state g c = λ i. record {
  segments = map_shared c.self.inside.segments.items c.in_ok-clone.field-0.items c.in_ok-clone.ensures.cases.0 i;
  history = (c.in_ok-clone-2.ensures.cases i).history;
  keeps = (c.in_ok-clone-2.ensures.cases i).keeps;
}

pub invariant_of-result : goal.invariant_of-result
invariant_of-result g c =
    let counts : c.in_ok-clone-4.field-0.items ≡ c.self.inside.counts.items =
    same_from_all_zip (λ (x y : ℕ). y ≡ x) _ _ c.in_ok-clone-4.ensures.cases.0 (λ x y e. e) in
    let live : c.in_ok-clone-5.field-0.items ≡ c.self.inside.live.items =
    same_from_all_zip (λ (x y : List Bool). y ≡ x) _ _ c.in_ok-clone-5.ensures.cases.0 (λ x y e. e) in
    let roster = c.in_ok-clone-3.ensures.cases in
    let segments =
    map_shared c.self.inside.segments.items c.in_ok-clone.field-0.items c.in_ok-clone.ensures.cases.0 in (
      subst (λ s. IsConsistent s c.in_ok-clone-3.field-0 c.in_ok-clone-4.field-0.items) (sym (same_state g c))
          (subst
          (λ (r : Roster). IsConsistent (state_of c.self.inside) r c.in_ok-clone-4.field-0.items)
          (sym c.in_ok-clone-3.ensures.cases)
          (subst (IsConsistent (state_of c.self.inside) c.self.inside.roster) (sym counts) c.self.invariant.0)),
      live ∙ c.self.invariant.1 ∙ sym (λ i. flags_in (roster i).registry (segments i)),
    )

pub returns : goal.returns
returns g c = record { cases = same_state g c ∙ c.self.view_is }
