use Rattle.std.proofs.Common.{◌∙◌, sym, bytes_eq}
use Rattle.clip_meaning.proofs.Occurrences.{first_told, none_told}
use Rattle.clip_meaning.proofs.WordOrder.{rises, word_settles}
use Rattle.clip_meaning.proofs.index.Postings.has_word.Goals as goal

pub returns-in-Some : goal.returns-in-Some
returns-in-Some c =
    let word = c.args.word.now in
    let ps = c.args.self.now in
    c.eq.ensures
    ∙ first_told (λ w. bytes_eq w word) c.first_word.result c.in-Some.first c.not_below.result _ c.in-Some.is
    c.first_word.ensures c.not_below.ensures
    ∙ sym (word_settles word ps (rises ps c.order_law.ensures.sorted))

pub returns-in-None : goal.returns-in-None
returns-in-None c =
    let word = c.args.word.now in
    let ps = c.args.self.now in
    none_told (λ p. bytes_eq p.0 word) c.first_word.result c.not_below.result _ c.in-None.is c.first_word.ensures
    c.not_below.ensures
    ∙ sym (word_settles word ps (rises ps c.order_law.ensures.sorted))
