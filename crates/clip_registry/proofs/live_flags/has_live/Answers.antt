use Rattle.std.proofs.Common.{◌≡◌, ◌<◌, ◌++◌, Some, true, false, unwrap_or, length, map, take, get_or, refl, sym, ap}
use Rattle.std.proofs.Common.{subst}
use Rattle.std.proofs.Common.{◌∙◌, arith, inl, inr}
use Rattle.std.proofs.Math.Seq.{take-length}
use Rattle.std.proofs.lemmas.List.Elements.{Contains-append_cases}
use Rattle.std.proofs.lemmas.Option.{slice_get-get_or, unwrap_or-slice_get}
use Rattle.std.specs.Arc.{arc_value}
use Rattle.std.specs.List.{Contains}
use Rattle.clip_indexed.specs.Segment.{all_entries, seqs_of}
use Rattle.clip_registry.specs.Steps.LiveFlags.{flags_of}
use Rattle.clip_registry.proofs.LiveFlags.{flag_there, flags_here, segment_at, seqs_more}
use Rattle.clip_registry.proofs.live_flags.has_live.Goals as goal

pub returns-in-Some : goal.returns-in-Some
returns-in-Some g c = λ is are holds.
    let place = c.loop-place.place in
    let segments = c.args.segments.now in
    let position = c.in-Some.position in
    let low : place < length c.args.live.now = omega (arith, c.loop-place-test.true, c.requires) in
    let flags = c.value.ensures
    ∙ flags_here is (map arc_value segments) c.args.live.now place c.index-live-place.result are c.index-live-place.is
    low
    ∙ ap (flags_of is)
    (segment_at segments place c.index-segments-place.result c.loop-place-test.true c.index-segments-place.is
    ∙ sym c.deref.ensures) in
    c.unwrap_or.ensures ∙ ap (λ f. unwrap_or f false) c.get.ensures
    ∙ unwrap_or-slice_get c.value.result.now position false ∙ ap (λ fs. get_or fs position false) flags
    ∙ flag_there is c.deref.result.now c.args.seq position c.in-Some.ensures.there

pub loop-place-preserved : goal.loop-place-preserved
loop-place-preserved g c = λ h.
    let place = c.loop-place.place in
    let segments = c.args.segments.now in
    let seq = c.args.seq in
    let here = seqs_of c.deref.result.now in
    let before = seqs_of (all_entries (map arc_value (take place segments))) in
    let all = seqs_more segments place c.index-segments-place.result c.loop-place-test.true c.index-segments-place.is
    ∙ ap (λ es. before ++ seqs_of es) (sym c.deref.ensures) in
    elim (Contains-append_cases before here seq (subst (λ ss. Contains ss seq) all h)) [
      | inl earlier ↦ c.loop-place.invariant earlier
      | inr (k, lt, at) ↦ c.in_default.ensures.nowhere refl k (slice_get-get_or here k seq lt ∙ ap Some at)
    ]

pub returns : goal.returns
returns g c = λ is are holds.
    let segments = c.args.segments.now in
    let seq = c.args.seq in
    let low = c.loop-place-test.false in
    let high = c.loop-place.auto.place-end in
    let all : take c.loop-place.place segments ≡ segments =
    ap (λ k. take k segments) (omega arith) ∙ take-length segments in
    elim (is seq) as (λ b. is seq ≡ b → false ≡ b) [
      | true ↦ λ live. absurd (c.loop-place.invariant
          (subst (λ ss. Contains (seqs_of (all_entries (map arc_value ss))) seq) (sym all) (holds live)))
      | false ↦ λ _. refl
    ] refl
