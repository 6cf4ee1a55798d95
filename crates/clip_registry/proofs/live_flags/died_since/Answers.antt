use Rattle.std.proofs.Common.{◌≡◌, ◌<◌, ◌++◌, [], length, map, get_or, take, sym, ap, ap₂, ◌∙◌, arith}
use Rattle.std.proofs.Math.Seq.{take-length}
use Rattle.std.proofs.lemmas.List.{get_or_default, length-map}
use Rattle.std.specs.Arc.{arc_value}
use Rattle.clip_indexed.specs.Segment.{all_entries, seqs_of}
use Rattle.clip_registry.specs.Steps.LiveFlags.{died, flags_of}
use Rattle.clip_registry.proofs.Clearing.{died_more}
use Rattle.clip_registry.proofs.LiveFlags.{as_many, flags_here, segment_at, shape_at}
use Rattle.clip_registry.proofs.live_flags.died_since.Goals as goal

pub add_died-requires : goal.add_died-requires
add_died-requires g c =
    let place = c.loop-place.place in
    let begun = c.args.begun.now in
    let sources = c.args.sources.now in
    let test = c.loop-place-test.true in
    let many = as_many begun sources c.requires.begun in
    let low : place < length begun = omega arith in
    ap length (c.value-in-loop-place.ensures ∙ c.index-begun-place.is
    ∙ get_or_default begun place c.index-begun-place.result [] low)
    ∙ shape_at begun (map arc_value sources) place c.requires.begun low
    (omega (arith, test, length-map sources arc_value))
    ∙ ap length
    (segment_at sources place c.index-sources-place.result test c.index-sources-place.is ∙ sym c.deref.ensures)

pub loop-place-preserved : goal.loop-place-preserved
loop-place-preserved g c = λ is was here before.
    let place = c.loop-place.place in
    let sources = c.args.sources.now in
    let all = map arc_value sources in
    let test = c.loop-place-test.true in
    let many = as_many c.args.begun.now sources c.requires.begun in
    let source : get_or all place [] ≡ c.deref.result.now =
    segment_at sources place c.index-sources-place.result test c.index-sources-place.is ∙ sym c.deref.ensures in
    c.in_ok-add_died.ensures is was
    (c.value.ensures
    ∙ flags_here is all c.args.now.now place c.index-now-place.result here c.index-now-place.is
    (omega (arith, test, c.requires.now)) ∙ ap (flags_of is) source)
    (c.value-in-loop-place.ensures
    ∙ flags_here was all c.args.begun.now place c.index-begun-place.result before c.index-begun-place.is
    (omega arith) ∙ ap (flags_of was) source)
    ∙ ap₂ (λ ss es. ss ++ seqs_of (died is was es)) (c.loop-place.invariant is was here before) c.deref.ensures
    ∙ sym (died_more is was arc_value sources place c.index-sources-place.result test c.index-sources-place.is)

pub returns : goal.returns
returns g c = λ is was here before.
    let sources = c.args.sources.now in
    let low = c.loop-place-test.false in
    let high = c.loop-place.auto.place-end in
    let all : take c.loop-place.place sources ≡ sources =
    ap (λ k. take k sources) (omega arith) ∙ take-length sources in
    c.loop-place.invariant is was here before
    ∙ ap (λ ss. seqs_of (died is was (all_entries (map arc_value ss)))) all
