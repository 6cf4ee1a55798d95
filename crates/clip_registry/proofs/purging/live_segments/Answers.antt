use Rattle.std.proofs.Common.{◌≡◌, ◌<◌, ◌≤◌, ◌+◌, ◌++◌, ◌∷◌, [], true, List, length, get_or, map}
use Rattle.std.proofs.Common.{take}
use Rattle.std.proofs.Common.{filter, replicate, refl, sym, ap, subst, ◌∙◌, arith, ℕ}
use Rattle.std.proofs.lemmas.List.{length-map, map-append, take_all, take_more}
use Rattle.std.proofs.lemmas.List.Elements.{filter-append}
use Rattle.std.specs.Arc.{arc_value}
use Rattle.clip_indexed.specs.Selecting.{flagged}
use Rattle.clip_model.specs.History.{Registered, is_live_in, replay}
use Rattle.clip_registry.specs.Merging.{has_entries, live_of, shelf}
use Rattle.clip_registry.specs.RegistryState.{RegistryState, IsWhole}
use Rattle.clip_registry.specs.Steps.LiveFlags.{flags_in, flags_of}
use Rattle.clip_registry.specs.Steps.Merging.{AreKept}
use Rattle.clip_registry.proofs.Clearing.{all_picked}
use Rattle.clip_registry.proofs.Kept.{kept_purged}
use Rattle.clip_registry.proofs.LiveFlags.{beside, length-flags_of, segment_at}
use Rattle.clip_registry.proofs.Picked.{flagged_by}
use Rattle.clip_registry.proofs.purging.live_segments.Given.{Over}
use Rattle.clip_registry.proofs.purging.live_segments.Goals as goal
use Rattle.clip_registry.proofs.purging.live_segments.Goals.{After-index}

shown : (es : List Registered) → shelf es ≡ filter has_entries (es ∷ [])
shown [] = refl
shown (e ∷ es) = refl

-- what is kept of one segment more
kept_more : (g : List Registered → List Registered) (segments : List (List Registered)) (i : ℕ) (es : List Registered)
    → i < length segments → get_or segments i [] ≡ es
    → filter has_entries (map g (take i segments)) ++ shelf (g es)
    ≡ filter has_entries (map g (take (i + 1) segments))
kept_more g segments i es lt at =
    ap (λ s. filter has_entries (map g (take i segments)) ++ s) (shown (g es))
    ∙ sym (ap (λ ss. filter has_entries (map g ss))
    (take_more segments i [] lt ∙ ap (λ s. take i segments ++ s ∷ []) at)
    ∙ ap (filter has_entries) (map-append g (take i segments) (es ∷ []))
    ∙ filter-append has_entries (map g (take i segments)) (g es ∷ []))

segments : (g : Over) (c : After-index g) → map arc_value c.deref-segment-items.result.now ≡ c.args.state.now.segments
segments g c = ap (map arc_value) c.deref-segment-items.ensures.value
    ∙ ap (λ (s : RegistryState). s.segments) c.state.view_is

item : (g : Over) (c : After-index g) → get_or c.args.state.now.segments c.loop-place.place []
    ≡ c.segment-item.result.value
item g c = ap (λ ss. get_or ss c.loop-place.place []) (sym (segments g c))
    ∙ segment_at c.deref-segment-items.result.now c.loop-place.place c.segment-item.result c.loop-place-test.true
    c.segment-item.is

within : (g : Over) (c : After-index g) → c.loop-place.place < length c.args.state.now.segments
within g c =
    omega (
      arith,
      c.loop-place-test.true,
      ap length (segments g c),
      length-map c.deref-segment-items.result.now arc_value,
    )

-- the flags beside a segment are those of what is live
flags : (g : Over) (c : After-index g) → c.index.result.now
    ≡ flags_of (is_live_in (replay c.args.state.now.history)) c.segment-item.result.value
flags g c =
    let items = c.state.inside.segments.items in
    let are = c.state.invariant.1
    ∙ ap (λ m. flags_in m (map arc_value items)) c.state.invariant.0.registry
    ∙ ap (λ (s : RegistryState). flags_in (replay s.history) s.segments) c.state.view_is in
    beside (is_live_in (replay c.args.state.now.history)) c.args.state.now.segments c.state.inside.live.items
    c.deref-segment-items.result.now c.loop-place.place c.segment-item.result c.index.result.now are (segments g c)
    c.loop-place-test.true c.segment-item.is c.index.ensures

pub live_segment-requires : goal.live_segment-requires
live_segment-requires g c =
    ap length (flags g c)
    ∙ length-flags_of (is_live_in (replay c.args.state.now.history)) c.segment-item.result.value

pub loop-place-preserved : goal.loop-place-preserved
loop-place-preserved g c =
    let here = (goal.at.loop-place-preserved g c).After-index in
    let state = c.args.state.now in
    let is = is_live_in (replay state.history) in
    let es = c.segment-item.result.value in
    let kept = c.in_ok-kept.kept.value in
    let live : kept ≡ live_of state es =
    c.in_ok-kept.ensures.entries ∙ ap (λ fs. flagged fs es) (flags g here) ∙ flagged_by is es in
    record {
      kept = c.in_ok-shelve.ensures.segments
          ∙ (λ i. c.loop-place.invariant.kept i ++ shelf (live i))
          ∙ kept_more (live_of state) state.segments c.loop-place.place es (within g here) (item g here);
      flags = c.in_ok-shelve.ensures.live is c.loop-place.invariant.flags
          (c.in_ok-kept.ensures.set ∙ ap (λ (rs : List Registered). replicate (length rs) true) live ∙ all_picked is es
          ∙ ap (flags_of is) (sym live));
    }

pub returns-clause-kept : goal.returns-clause-kept
returns-clause-kept g c =
    let state = c.args.state.now in
    let segments : map arc_value c.deref-segment-items.result.now ≡ state.segments =
    ap (map arc_value) c.deref-segment-items.ensures.value
    ∙ ap (λ (s : RegistryState). s.segments) c.state.view_is in
    let long = ap length segments in
    let past : length state.segments ≤ c.loop-place.place =
    omega (arith, c.loop-place-test.false, long, length-map c.deref-segment-items.result.now arc_value) in
    subst (AreKept state)
    (sym (c.loop-place.invariant.kept
    ∙ ap (λ ss. filter has_entries (map (live_of state) ss)) (take_all c.loop-place.place state.segments past)))
    (kept_purged state (subst IsWhole c.state.view_is c.state.invariant.0.whole))
