use Rattle.std.proofs.Common.{◌∙◌, sym, subst}
use Rattle.clip_meaning.specs.Steps.Occurrences.{AreRising}
use Rattle.clip_meaning.proofs.Rising.{rising_index}
use Rattle.clip_meaning.proofs.index.occurrences_of.Goals as goal

pub returns-then-are_rising : goal.returns-then-are_rising
returns-then-are_rising c =
    let words = c.args.words.now in
    let found = c.in_ok-found.found.items in
    rising_index words found
    (sym c.in_ok-found.found.ok.0 ∙ sym c.len.ensures ∙ c.if-len.true ∙ c.len-2.ensures) c.in_ok-found.ensures
    (subst (AreRising words) c.deref.ensures.value (c.are_rising.ensures c.if-are_rising.true))
