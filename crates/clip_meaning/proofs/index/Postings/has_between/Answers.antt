use Rattle.std.proofs.Common.{◌∙◌, sym, ◌&&◌}
use Rattle.clip_grammar.specs.Tree.{end_of}
use Rattle.clip_meaning.specs.Meaning.{above, below}
use Rattle.clip_meaning.proofs.Occurrences.{between_told, none_told}
use Rattle.clip_meaning.proofs.WordOrder.{rises, range_settles}
use Rattle.clip_meaning.proofs.index.Postings.has_between.Goals as goal

pub returns-in-Some : goal.returns-in-Some
returns-in-Some c =
    let low = end_of c.args.low.now in
    let high = end_of c.args.high.now in
    let ps = c.args.self.now in
    c.is_below.ensures
    ∙ between_told low high c.first_word.result c.in-Some.first c.from_low.result ps c.in-Some.is
    c.first_word.ensures c.from_low.ensures
    ∙ sym (range_settles low high ps (rises ps c.order_law.ensures.sorted))

pub returns-in-None : goal.returns-in-None
returns-in-None c =
    let low = end_of c.args.low.now in
    let high = end_of c.args.high.now in
    let ps = c.args.self.now in
    none_told (λ p. above low p.0 && below high p.0) c.first_word.result c.from_low.result _ c.in-None.is
    c.first_word.ensures c.from_low.ensures
    ∙ sym (range_settles low high ps (rises ps c.order_law.ensures.sorted))
