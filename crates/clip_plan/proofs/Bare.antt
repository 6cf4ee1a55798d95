-- Queries without the groups around them whose only clause must or may hold.
use Rattle.std.proofs.Common.{◌≡◌, ◌≤◌, arith, [], ◌∷◌, ◌++◌, length, refl, sym, ap, ◌∙◌, append-nil}
use Rattle.clip_grammar.specs.Tree.{Tree, Clauses, none, clause, nodes, bare}
use Rattle.clip_grammar.specs.declared.query.Occur.{Occur}
use Rattle.clip_grammar.specs.declared.query.Occur.TheVariants.{Must, Should}
use Rattle.clip_plan.specs.Plan.{Open, Close, clause_marks, group_marks, plan_of, word_keys}

pub bare_clause : (occur : Occur) (tree : Tree) → clause_marks occur (bare tree) ≡ clause_marks occur tree
bare_clause occur (Tree.Group (clause Must child none)) = bare_clause occur child
bare_clause occur (Tree.Group (clause Should child none)) = bare_clause occur child
bare_clause occur tree = refl

pub bare_plan : (tree : Tree) → plan_of (bare tree) ≡ plan_of tree
bare_plan (Tree.Group (clause Must child none)) = bare_plan child
bare_plan (Tree.Group (clause Should child none)) = bare_plan child
bare_plan tree = refl

pub bare_words : (tree : Tree) → word_keys (bare tree) ≡ word_keys tree
bare_words (Tree.Group (clause Must child none)) = bare_words child ∙ sym (append-nil (word_keys child))
bare_words (Tree.Group (clause Should child none)) = bare_words child ∙ sym (append-nil (word_keys child))
bare_words tree = refl

pub bare_nodes : (tree : Tree) → nodes (bare tree) ≤ nodes tree
bare_nodes (Tree.Group (clause Must child none)) = omega (arith, bare_nodes child)
bare_nodes (Tree.Group (clause Should child none)) = omega (arith, bare_nodes child)
bare_nodes tree = omega arith

-- ---- groups

same_clauses : (others clauses : Clauses) → Tree.Group others ≡ Tree.Group clauses → others ≡ clauses
same_clauses others clauses is = cc

-- a query of which a group is left, as a clause: that group
pub group_clause : (occur : Occur) (tree : Tree) (clauses : Clauses) → bare tree ≡ Tree.Group clauses
    → clause_marks occur tree ≡ Open occur (length (group_marks clauses)) ∷ group_marks clauses ++ Close occur ∷ []
group_clause occur (Tree.Group (clause Must child none)) clauses is = group_clause occur child clauses is
group_clause occur (Tree.Group (clause Should child none)) clauses is = group_clause occur child clauses is
group_clause occur (Tree.Group others) clauses is =
    ap (λ cs. Open occur (length (group_marks cs)) ∷ group_marks cs ++ Close occur ∷ [])
    (same_clauses others clauses is)
group_clause occur leaf clauses is = cc

-- its plan: that group's clauses
pub group_plan : (tree : Tree) (clauses : Clauses) → bare tree ≡ Tree.Group clauses
    → plan_of tree ≡ group_marks clauses
group_plan (Tree.Group (clause Must child none)) clauses is = group_plan child clauses is
group_plan (Tree.Group (clause Should child none)) clauses is = group_plan child clauses is
group_plan (Tree.Group others) clauses is = ap group_marks (same_clauses others clauses is)
group_plan leaf clauses is = cc
