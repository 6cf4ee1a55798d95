use Rattle.std.proofs.Common.{◌<◌, ◌∙◌, sym, subst, length}
use Rattle.std.proofs.lemmas.Slice.Eq.{bytes_eq-Decides}
use Rattle.clip_terms.proofs.PlacedWords.{read_itself}
use Rattle.clip_terms.proofs.AskedFronts.{words_more, word_again}
use Rattle.clip_terms.proofs.numbering.add_posting_fronts.Goals as goal

pub loop-place-preserved : goal.loop-place-preserved
loop-place-preserved c =
    let ps = c.args.postings.now in
    let i = c.loop-place.place in
    let p = c.at-posting.result in
    let lt : i < length ps = subst (λ n. i < n) c.len-place-end.ensures c.loop-place-test.true in (
      c.word-word.utf8,
      words_more c.args.of_field.now.terms c.args.of_field.now.field c.loop-place.last.now c.word-word.result.now
          c.loop-place.numbers.items c.add_word_fronts.new.numbers.items _ ps i p
          lt (read_itself ps i p lt c.at-posting.ensures) c.word-word.ensures
          c.in_ok-add_word_fronts.ensures c.loop-place.invariant.1,
    )

pub loop-place-preserved-then-eq : goal.loop-place-preserved-then-eq
loop-place-preserved-then-eq c =
    let ps = c.args.postings.now in
    let i = c.loop-place.place in
    let p = c.at-posting.result in
    let lt : i < length ps = subst (λ n. i < n) c.len-place-end.ensures c.loop-place-test.true in
    let again = (bytes_eq-Decides c.word-word.result.now c.loop-place.last.now).0 (sym c.eq.ensures ∙ c.if-eq.true) in (
      c.loop-place.invariant.0,
      word_again c.args.of_field.now.terms c.args.of_field.now.field c.loop-place.last.now
          c.loop-place.numbers.items _ ps i p lt
          (read_itself ps i p lt c.at-posting.ensures) (sym c.word-word.ensures ∙ again)
          c.loop-place.invariant.1,
    )
