use Rattle.std.proofs.Common.{◌≡◌, ◌∙◌, IfOk, ap, sym, subst, map}
use Rattle.std.specs.Arc.{arc_str_bytes}
use Rattle.std.proofs.lemmas.Slice.Eq.{bytes_eq-Decides}
use Rattle.clip_grammar.specs.Reading.{Reads}
use Rattle.clip_grammar.specs.Tree.{tree_of}
use Rattle.clip_grammar.proofs.Uniqueness.{one_tree}
use Rattle.clip_meaning.specs.Hits.{hit_value, hits}
use Rattle.clip_model.specs.Standing as value
use Rattle.clip_standing.proofs.standing.Standing.hits_in.Goals as goal

-- a text has one tree, so that of the reading that is kept is the standing query's
pub returns-then-is_of : goal.returns-then-is_of
returns-then-is_of c =
    let kept = c.in_ok-reading.reading.now in
    let text = arc_str_bytes c.self.inside.text in
    let same : kept.0 ≡ text = (bytes_eq-Decides _ _).0 (sym c.is_of.ensures ∙ c.if-is_of.true)
    ∙ c.as_str.ensures.value in
    let read : Reads text (tree_of c.query.result.now) =
    subst (λ t. Reads text t) (sym c.query.ensures.query) (subst (λ t. Reads t kept.1) same c.query.ensures.reads)
    in
    let one : tree_of c.query.result.now ≡ c.args.self.now.tree = one_tree text _ _ read c.self.invariant.reads
    ∙ ap (λ (s : value.Standing). s.tree) c.self.view_is in
    subst (λ tree. IfOk c.hits.result (λ found. map hit_value found.items ≡ hits tree c.args.article.now.fields)) one
    c.hits.ensures
