use Rattle.std.proofs.Common.{◌≡◌, ◌<◌, [], length, map, get_or, set, sym, ap, ◌∙◌, inl, inr, arith}
use Rattle.std.proofs.lemmas.Bool.{cases_order}
use Rattle.std.proofs.lemmas.List.{get_or_default, get_or-set_same, get_or-set_other, length-map, length-set}
use Rattle.std.specs.Arc.{arc_value}
use Rattle.clip_registry.specs.Steps.LiveFlags.{flags_of, without_all}
use Rattle.clip_registry.proofs.LiveFlags.{as_many, flags_at, flags_from, segment_at, shape_at}
use Rattle.clip_registry.proofs.live_flags.clear_each.Goals as goal

pub clear-requires : goal.clear-requires
clear-requires g c =
    let place = c.loop-place.place in
    let flags = c.loop-place.live.items in
    let segments = c.args.segments.now in
    let test = c.loop-place-test.true in
    let many = as_many c.args.live.now.items segments c.requires in
    let long = c.loop-place.invariant.long in
    let within : place < length segments = omega arith in
    let low : place < length flags = omega arith in
    let here : c.index_mut.result.now ≡ get_or flags place [] =
    c.index_mut.ensures.value ∙ get_or_default flags place c.index_mut.result.now [] low in
    ap length (here ∙ c.loop-place.invariant.rest place (omega arith))
    ∙ shape_at c.args.live.now.items (map arc_value segments) place c.requires (omega arith)
    (omega (arith, within, length-map segments arc_value))
    ∙ ap length (segment_at segments place c.index-segments-place.result within c.index-segments-place.is
    ∙ sym c.deref.ensures)

pub loop-place-preserved : goal.loop-place-preserved
loop-place-preserved g c =
    let place = c.loop-place.place in
    let flags = c.loop-place.live.items in
    let segments = c.args.segments.now in
    let new = c.clear.new.flags in
    let test = c.loop-place-test.true in
    let many = as_many c.args.live.now.items segments c.requires in
    let long = c.loop-place.invariant.long in
    let within : place < length segments = omega arith in
    let low : place < length flags = omega arith in
    let here : c.index_mut.result.now ≡ get_or flags place [] =
    c.index_mut.ensures.value ∙ get_or_default flags place c.index_mut.result.now [] low in
    let segment : get_or (map arc_value segments) place [] ≡ c.deref.result.now =
    segment_at segments place c.index-segments-place.result within c.index-segments-place.is
    ∙ sym c.deref.ensures in
    record {
      long = length-set flags place new ∙ long;
      done = λ is are k lt.
          let old : c.index_mut.result.now ≡ flags_of is c.deref.result.now =
          here ∙ c.loop-place.invariant.rest place (omega arith)
          ∙ flags_at is (map arc_value segments) c.args.live.now.items place are
          (omega (arith, within, length-map segments arc_value)) ∙ ap (flags_of is) segment in
          elim (cases_order k place) [
            | inl same ↦
                ap (λ j. get_or (set flags place new) j []) same ∙ get_or-set_same flags place new [] low
                ∙ c.in_ok-clear.ensures is old
                ∙ ap (flags_of (without_all c.args.seqs.now is)) (sym segment
                ∙ ap (λ j. get_or (map arc_value segments) j []) (sym same))
            | inr (inl less) ↦ get_or-set_other flags place k new [] (λ e. omega arith)
                ∙ c.loop-place.invariant.done is are k less
            | inr (inr more) ↦ absurd (omega arith)
          ];
      rest = λ k le. get_or-set_other flags place k new [] (λ e. omega arith)
          ∙ c.loop-place.invariant.rest k (omega arith);
    }

pub returns : goal.returns
returns g c = λ is are.
    let segments = c.args.segments.now in
    let test = c.loop-place-test.false in
    let many = as_many c.args.live.now.items segments c.requires in
    let long = c.loop-place.invariant.long in
    let all = length-map segments arc_value in
    flags_from (without_all c.args.seqs.now is) (map arc_value segments) c.loop-place.live.items (omega arith)
    (λ k lt. c.loop-place.invariant.done is are k (omega arith))
