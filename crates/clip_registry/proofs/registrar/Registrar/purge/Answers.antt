use Rattle.std.proofs.Common.{◌≡◌, map, sym, ap, subst, ◌∙◌}
use Rattle.std.specs.Arc.{arc_value}
use Rattle.clip_model.specs.History.{replay}
use Rattle.clip_registry.specs.Steps.LiveFlags.{flags_in}
use Rattle.clip_registry.specs.Merging.{purged}
use Rattle.clip_registry.specs.RegistryState.{RegistryState}
use Rattle.clip_registry.specs.Steps.Merging.{AreKept}
use Rattle.clip_registry.specs.Steps.State.{state_or_beginning}
use Rattle.clip_registry.proofs.registrar.Registrar.purge.Goals as goal

pub with_segments-requires-clause-flags : goal.with_segments-requires-clause-flags
with_segments-requires-clause-flags g c =
    c.in_ok-segments.ensures.flags
    ∙ ap (λ (s : RegistryState). flags_in (replay s.history) (map arc_value c.in_ok-segments.segments.items))
    (c.deref.ensures ∙ sym c.deref-2.ensures)

pub with_segments-requires-clause-kept : goal.with_segments-requires-clause-kept
with_segments-requires-clause-kept g c =
    subst (λ s. AreKept s (map arc_value c.in_ok-segments.segments.items)) (c.deref.ensures ∙ sym c.deref-2.ensures)
    c.in_ok-segments.ensures.kept

pub returns-clause-purged : goal.returns-clause-purged
returns-clause-purged g c =
    let segments = c.in_ok-segments.ensures.segments
    ∙ ap (λ (s : RegistryState). (purged s).segments) c.deref.ensures in
    let next : c.in_ok-with_segments.field-0.value ≡ purged c.in-Some.shared.value =
    c.in_ok-with_segments.ensures ∙ (λ i. record (c.deref-2.ensures i) { segments = segments i }) in
    next ∙ ap purged (ap (state_or_beginning c.self.inside.keeps) (sym c.in-Some.is) ∙ c.self.view_is)
