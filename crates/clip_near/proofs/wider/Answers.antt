use Rattle.std.proofs.Common.{◌≡◌, true, ◌++◌, [], ◌∷◌, map, sym, ap, ◌∙◌, subst}
use Rattle.clip_grammar.specs.Tree.{Tree, clauses_of, tree_of}
use Rattle.clip_grammar.specs.declared.query.Occur.TheVariants.{Must}
use Rattle.clip_grammar.proofs.Trees.{tree_of_group}
use Rattle.clip_meaning.specs.Meaning.{holds}
use Rattle.clip_near.proofs.Law.{near_is_within}
use Rattle.clip_near.proofs.wider.Goals as goal

pub returns-clause-misses_nothing : goal.returns-clause-misses_nothing
returns-clause-misses_nothing c =
    let items = c.in_ok-push-2.ensures.items
    ∙ ap (λ xs. xs ++ (Must, c.args.second) ∷ [])
    (c.in_ok-push.ensures.items ∙ ap (λ xs. xs ++ (Must, c.args.first) ∷ []) c.in_ok-clauses.ensures.items) in
    let tree = tree_of_group c.push-2.new.self
    ∙ ap (λ xs. Tree.Group (clauses_of (map (λ x. (x.0, tree_of x.1)) xs))) items in
    λ between ordered fields near. subst (λ t. holds t fields ≡ true) (sym tree)
    (near_is_within (tree_of c.args.first) (tree_of c.args.second) between ordered fields near)
