use Rattle.std.proofs.Common.{◌≡◌, ◌<◌, ◌++◌, [], Some, filter, length, map, option_map, slice_get, take, sym, ap, ap₂}
use Rattle.std.proofs.Common.{subst, ◌∙◌, arith}
use Rattle.std.proofs.lemmas.List.{length-map, take_all}
use Rattle.std.proofs.lemmas.List.Elements.{filter-append}
use Rattle.std.proofs.lemmas.Option.{same_Some, slice_get-get_or}
use Rattle.std.specs.Arc.{arc_value}
use Rattle.clip_indexed.specs.Segment.{IsRising, all_entries}
use Rattle.clip_model.specs.History.{Registered, is_live}
use Rattle.clip_registry.specs.Steps.LiveFlags.{flags_of}
use Rattle.clip_registry.proofs.LiveFlags.{segment_at}
use Rattle.clip_registry.proofs.Rising.{rising_filter}
use Rattle.clip_registry.proofs.Whole.{entries_more}
use Rattle.clip_registry.proofs.view.View.live_entries.Goals as goal

pub loop-place-preserved : goal.loop-place-preserved
loop-place-preserved g c =
    let state = c.args.self.now in
    let is = is_live state.history in
    let live = λ (r : Registered). is r.seq in
    let items = c.segments-segment-items.result.now in
    let place = c.loop-place.place in
    let es = c.segment-item.result.value in
    let before = all_entries (map arc_value (take place items)) in
    let low : place < length (map arc_value items) =
    omega (arith, c.loop-place-test.true, length-map items arc_value) in
    let there : slice_get state.segments place ≡ Some es =
    ap (λ ss. slice_get ss place) (sym c.segments-segment-items.ensures.segments)
    ∙ slice_get-get_or (map arc_value items) place [] low
    ∙ ap Some (segment_at items place c.segment-item.result c.loop-place-test.true c.segment-item.is) in
    let flags = same_Some _ _ (c.in-Some.ensures ∙ ap (option_map (flags_of is)) there)
    ∙ ap (flags_of is) (sym c.deref.ensures) in
    c.in_ok-add_live.ensures is flags
    ∙ ap₂ (λ xs ys. xs ++ filter live ys) c.loop-place.invariant c.deref.ensures
    ∙ sym (ap (filter live) (entries_more arc_value items place c.segment-item.result c.loop-place-test.true
    c.segment-item.is) ∙ filter-append live before es)

pub returns-clause-rising : goal.returns-clause-rising
returns-clause-rising g c =
    let state = c.args.self.now in
    let live = λ (r : Registered). is_live state.history r.seq in
    let items = c.segments-segment-items.result.now in
    subst IsRising
    (sym (c.loop-place.invariant
    ∙ ap (λ ss. filter live (all_entries (map arc_value ss)))
    (take_all c.loop-place.place items c.loop-place-test.false)
    ∙ ap (λ ss. filter live (all_entries ss)) c.segments-segment-items.ensures.segments))
    (rising_filter live (all_entries state.segments) c.segments-segment-items.ensures.whole.rising)
