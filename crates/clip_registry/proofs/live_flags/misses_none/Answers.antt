use Rattle.std.proofs.Common.{◌≡◌, ◌<◌, ◌&&◌, [], length, take, get_or, sym, ap, ap₂, ◌∙◌, arith}
use Rattle.std.proofs.Math.Seq.{take-length}
use Rattle.std.proofs.lemmas.List.Folds.{list_all_at, list_all_more}
use Rattle.std.specs.List.{list_all}
use Rattle.clip_registry.specs.Steps.LiveFlags.{stays}
use Rattle.clip_registry.proofs.LiveFlags.{as_long, flags_here}
use Rattle.clip_registry.proofs.Missing.{list_all-all_entries}
use Rattle.clip_registry.proofs.live_flags.misses_none.Goals as goal

pub returns-then-not-misses_none_of : goal.returns-then-not-misses_none_of
returns-then-not-misses_none_of c = λ is was segments now begun.
    let place = c.loop-place.place in
    let low = c.loop-place-test.true in
    let long = as_long is segments c.args.now.now now in
    let inside : place < length segments = omega arith in
    let low_begun : place < length c.args.begun.now = omega (arith, low, c.requires) in
    sym (list_all-all_entries (stays is was) segments
    ∙ list_all_at (list_all (stays is was)) segments place [] inside
    (sym (c.if-not-misses_none_of.ensures is was (get_or segments place [])
    (c.value.ensures
    ∙ flags_here is segments c.args.now.now place c.index-now-place.result now c.index-now-place.is low)
    (c.value-in-loop-place.ensures
    ∙ flags_here was segments c.args.begun.now place c.index-begun-place.result begun c.index-begun-place.is
    low_begun))))

pub loop-place-preserved : goal.loop-place-preserved
loop-place-preserved c = λ is was segments now begun.
    let place = c.loop-place.place in
    let low = c.loop-place-test.true in
    let long = as_long is segments c.args.now.now now in
    let inside : place < length segments = omega arith in
    let low_begun : place < length c.args.begun.now = omega (arith, low, c.requires) in
    list_all_more (list_all (stays is was)) segments place [] inside
    ∙ ap₂ (λ a b. a && b) (c.loop-place.invariant is was segments now begun)
    (sym (c.if-not-misses_none_of.ensures is was (get_or segments place [])
    (c.value.ensures
    ∙ flags_here is segments c.args.now.now place c.index-now-place.result now c.index-now-place.is low)
    (c.value-in-loop-place.ensures
    ∙ flags_here was segments c.args.begun.now place c.index-begun-place.result begun c.index-begun-place.is
    low_begun)))

pub returns : goal.returns
returns c = λ is was segments now begun.
    let place = c.loop-place.place in
    let low = c.loop-place-test.false in
    let high = c.loop-place.auto.place-end in
    let long = as_long is segments c.args.now.now now in
    let all : take place segments ≡ segments = ap (λ k. take k segments) (omega arith) ∙ take-length segments in
    sym (list_all-all_entries (stays is was) segments ∙ ap (list_all (list_all (stays is was))) (sym all)
    ∙ c.loop-place.invariant is was segments now begun)
