use Rattle.std.proofs.Common.{◌≡◌, ◌+◌, ◌≤◌, length, map, refl, sym, ap, subst, ◌∙◌}
use Rattle.std.specs.Arc.{arc_value}
use Rattle.clip_model.specs.History.{replay}
use Rattle.clip_registry.specs.Steps.LiveFlags.{flags_in}
use Rattle.clip_registry.specs.Merging.{IsStale, Misses, StandsAt}
use Rattle.clip_registry.specs.RegistryState.{RegistryState}
use Rattle.clip_registry.specs.Steps.Merging.{AreKept, replaced}
use Rattle.clip_registry.specs.Steps.State.{state_or_beginning}
use Rattle.clip_registry.proofs.registrar.Registrar.install.Given.{Over}
use Rattle.clip_registry.proofs.registrar.Registrar.install.Goals as goal
use Rattle.clip_registry.proofs.registrar.Registrar.install.Goals.{In_ok-segments}

-- the new segments have the merge in the place of its sources
put : (g : Over) (c : In_ok-segments g) → map arc_value c.in_ok-segments.segments.items
    ≡ replaced c.deref.result.now.segments c.in-Some-place_in.first (length c.args.merged.sources)
    c.args.merged.entries
put g c = c.in_ok-segments.ensures.segments
    ∙ ap (λ (s : RegistryState). replaced s.segments c.in-Some-place_in.first (length c.args.merged.sources)
    c.args.merged.entries) (c.deref-2.ensures ∙ sym c.deref.ensures)

pub put_in-requires-clause-there : goal.put_in-requires-clause-there
put_in-requires-clause-there g c =
    subst (λ (s : RegistryState). c.in-Some-place_in.first + length c.args.merged.sources ≤ length s.segments)
    (c.deref.ensures ∙ sym c.deref-2.ensures) c.in-Some-place_in.ensures.there

pub put_in-requires-clause-stands : goal.put_in-requires-clause-stands
put_in-requires-clause-stands g c =
    subst (λ (s : RegistryState). StandsAt s.segments c.args.merged.sources c.in-Some-place_in.first)
    (c.deref.ensures ∙ sym c.deref-2.ensures) c.in-Some-place_in.ensures.stands

pub with_segments-requires-clause-flags : goal.with_segments-requires-clause-flags
with_segments-requires-clause-flags g c =
    c.in_ok-segments.ensures.flags
    ∙ ap (λ (s : RegistryState). flags_in (replay s.history) (map arc_value c.in_ok-segments.segments.items))
    (c.deref-2.ensures ∙ sym c.deref-3.ensures)

pub with_segments-requires-clause-kept : goal.with_segments-requires-clause-kept
with_segments-requires-clause-kept g c =
    subst (λ s. AreKept s (map arc_value c.in_ok-segments.segments.items)) (c.deref.ensures ∙ sym c.deref-3.ensures)
    (subst (AreKept c.deref.result.now) (sym (put g (goal.at.with_segments-requires-clause-kept g c).In_ok-segments))
    c.in-Some-place_in.ensures.kept)

pub returns-clause-done : goal.returns-clause-done
returns-clause-done g c _ =
    let was : c.deref.result.now ≡ c.args.self.now =
    c.deref.ensures ∙ ap (state_or_beginning c.self.inside.keeps) (sym c.in-Some.is) ∙ c.self.view_is in
    let next = c.in_ok-with_segments.ensures in
    let with_others = ap (λ (s : RegistryState). record s { segments = map arc_value c.in_ok-segments.segments.items })
    (c.deref-3.ensures ∙ sym c.deref.ensures ∙ was) in
    record {
      first = c.in-Some-place_in.first;
      stood = subst (λ (s : RegistryState). StandsAt s.segments c.args.merged.sources c.in-Some-place_in.first) was
          c.in-Some-place_in.ensures.stands;
      complete = λ miss. c.in-Some-place_in.ensures.complete (subst (λ s. Misses s c.args.merged) (sym was) miss);
      segments = ap (λ (s : RegistryState). s.segments) next ∙ put g (goal.at.returns-clause-done g c).In_ok-segments
          ∙ ap (λ (s : RegistryState). replaced s.segments c.in-Some-place_in.first (length c.args.merged.sources)
          c.args.merged.entries) was;
      history = ap (λ (s : RegistryState). s.history) (next ∙ with_others);
      keeps = ap (λ (s : RegistryState). s.keeps) (next ∙ with_others);
    }

pub returns-clause-unchanged : goal.returns-clause-unchanged
returns-clause-unchanged g c never = elim (never refl) [ ]

pub returns-in_default-place_in-clause-stale : goal.returns-in_default-place_in-clause-stale
returns-in_default-place_in-clause-stale g c _ =
    let was : c.deref.result.now ≡ c.args.self.now =
    c.deref.ensures ∙ ap (state_or_beginning c.self.inside.keeps) (sym c.in-Some.is) ∙ c.self.view_is in
    subst (λ s. IsStale s c.args.merged) was (c.place_in.ensures.stale c.in_default-place_in.is)
