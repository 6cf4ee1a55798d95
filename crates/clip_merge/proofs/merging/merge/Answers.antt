use Rattle.std.proofs.Common.{◌≡◌, ◌≤◌, map, vec_items, sym, ap, subst, ◌∙◌}
use Rattle.std.proofs.lemmas.List.{take_all}
use Rattle.std.proofs.lemmas.Result.{IfOk-weaker}
use Rattle.std.specs.Arc.{arc_value}
use Rattle.clip_indexed.specs.Selecting.{AreFlagsOf, count_set, kept_of}
use Rattle.clip_indexed.specs.Segment.{IsRising, all_entries}
use Rattle.clip_indexed.specs.declared.segment.TheConstants.{MOST_POSITIONS}
use Rattle.clip_merge.specs.Live.{named}
use Rattle.clip_merge.proofs.Named.{flags_of, flags_each, count_named, kept_named, named_rising}
use Rattle.clip_merge.proofs.merging.merge.Goals as goal

pub select-requires-clause-flags : goal.select-requires-clause-flags
select-requires-clause-flags g c =
    let segments = map arc_value c.args.segments.now in
    let flags : map vec_items c.deref-2.result.now ≡ flags_of c.args.live.now segments =
    ap (map vec_items) c.deref-2.ensures.value ∙ c.loop-segment.invariant
    ∙ ap (λ ss. flags_of c.args.live.now (map arc_value ss))
    (take_all c.loop-segment.segment-index c.args.segments.now c.loop-segment-test.false) in
    subst (AreFlagsOf segments) (sym flags) (flags_each c.args.live.now segments)

pub select-requires-clause-short : goal.select-requires-clause-short
select-requires-clause-short g c =
    let segments = map arc_value c.args.segments.now in
    let flags : map vec_items c.deref-2.result.now ≡ flags_of c.args.live.now segments =
    ap (map vec_items) c.deref-2.ensures.value ∙ c.loop-segment.invariant
    ∙ ap (λ ss. flags_of c.args.live.now (map arc_value ss))
    (take_all c.loop-segment.segment-index c.args.segments.now c.loop-segment-test.false) in
    subst (λ n. n ≤ MOST_POSITIONS) (sym (ap count_set flags ∙ count_named c.args.live.now segments)) c.requires.short

pub select-requires-clause-rising : goal.select-requires-clause-rising
select-requires-clause-rising g c =
    let segments = map arc_value c.args.segments.now in
    let flags : map vec_items c.deref-2.result.now ≡ flags_of c.args.live.now segments =
    ap (map vec_items) c.deref-2.ensures.value ∙ c.loop-segment.invariant
    ∙ ap (λ ss. flags_of c.args.live.now (map arc_value ss))
    (take_all c.loop-segment.segment-index c.args.segments.now c.loop-segment-test.false) in
    subst IsRising (sym (ap (kept_of segments) flags ∙ kept_named c.args.live.now segments))
    (named_rising c.args.live.now (all_entries segments) c.requires.rising)

pub returns : goal.returns
returns g c =
    let segments = map arc_value c.args.segments.now in
    let flags : map vec_items c.deref-2.result.now ≡ flags_of c.args.live.now segments =
    ap (map vec_items) c.deref-2.ensures.value ∙ c.loop-segment.invariant
    ∙ ap (λ ss. flags_of c.args.live.now (map arc_value ss))
    (take_all c.loop-segment.segment-index c.args.segments.now c.loop-segment-test.false) in
    IfOk-weaker c.select.result _ (λ segment. segment ≡ named c.args.live.now (all_entries segments)) (λ segment is. is
    ∙ ap (kept_of segments) flags ∙ kept_named c.args.live.now segments) c.select.ensures
