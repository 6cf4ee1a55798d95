use Rattle.std.proofs.Common.{◌∙◌, sym}
use Rattle.clip_meaning.specs.Meaning.{begins_with}
use Rattle.clip_meaning.proofs.Occurrences.{first_told, none_told}
use Rattle.clip_meaning.proofs.WordOrder.{rises, front_settles}
use Rattle.clip_meaning.proofs.index.Postings.has_front.Goals as goal

pub returns-in-Some : goal.returns-in-Some
returns-in-Some c =
    let front = c.args.front.now in
    let ps = c.args.self.now in
    c.has_front.ensures
    ∙ first_told (begins_with front) c.first_word.result c.in-Some.first c.not_below.result _ c.in-Some.is
    c.first_word.ensures c.not_below.ensures
    ∙ sym (front_settles front ps (rises ps c.order_law.ensures.sorted))

pub returns-in-None : goal.returns-in-None
returns-in-None c =
    let front = c.args.front.now in
    let ps = c.args.self.now in
    none_told (λ p. begins_with front p.0) c.first_word.result c.not_below.result _ c.in-None.is c.first_word.ensures
    c.not_below.ensures
    ∙ sym (front_settles front ps (rises ps c.order_law.ensures.sorted))
