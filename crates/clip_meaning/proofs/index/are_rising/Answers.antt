use Rattle.std.proofs.Common.{◌∙◌, ◌-◌, sym, arith, is_lt}
use Rattle.std.proofs.lemmas.List.{get_or_default}
use Rattle.clip_meaning.specs.Steps.Occurrences.{order_of}
use Rattle.clip_meaning.proofs.Rising.{none, one_more}
use Rattle.clip_meaning.proofs.index.are_rising.Goals as goal

pub loop-place-preserved : goal.loop-place-preserved
loop-place-preserved c =
    let words = c.args.words.now in
    let found = c.args.found.now in
    let place = c.loop-place.place in
    record {
      rising = one_more words found place c.loop-place.invariant.rising (λ other.
          let before = get_or_default found (place - 1) other none (omega (arith, c.loop-place-test.true)) in
          let here = get_or_default found place other none (omega (arith, c.loop-place-test.true)) in
          (λ i. is_lt (order_of words (before i) (here i))) ∙ sym c.is_before.ensures ∙ c.if-not-is_before.false);
    }
