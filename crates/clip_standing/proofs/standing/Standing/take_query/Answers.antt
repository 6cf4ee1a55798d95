-- A text has one tree, so that of the reading that is taken is the standing query's.
use Rattle.std.proofs.Common.{◌≡◌, ◌∙◌, sym, subst, ap}
use Rattle.std.specs.Arc.{arc_str_bytes}
use Rattle.std.proofs.lemmas.Slice.Eq.{bytes_eq-Decides}
use Rattle.clip_grammar.specs.Reading.{Reads}
use Rattle.clip_grammar.proofs.Uniqueness.{one_tree}
use Rattle.clip_model.specs.Standing as value
use Rattle.clip_standing.proofs.standing.Standing.take_query.Goals as goal

pub returns : goal.returns
returns c =
    let taken = c.into_inner.result in
    let text = arc_str_bytes c.self.inside.text in
    let is : taken ≡ c.deref.result.now = c.into_inner.ensures ∙ sym c.deref.ensures in
    let same : c.deref.result.now.0 ≡ text = (bytes_eq-Decides _ _).0 (sym c.is_of.ensures ∙ c.if-is_of.true)
    ∙ c.as_str.ensures.value in
    let read : Reads text taken.1 = subst (λ t. Reads t taken.1) (ap (λ r. r.0) is ∙ same) c.into_query.ensures.reads in
    c.into_query.ensures.query ∙ one_tree text _ _ read c.self.invariant.reads
    ∙ ap (λ (s : value.Standing). s.tree) c.self.view_is
