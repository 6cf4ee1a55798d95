-- A group's copy, clause by clause.
use Rattle.std.proofs.Common.{◌≡◌, ℕ, ◌+◌, ◌<◌, ◌≤◌, List, [], ◌∷◌, ◌++◌, map, length, take, get_or, Vec, Global, sym}
use Rattle.std.proofs.Common.{ap, ◌∙◌}
use Rattle.std.proofs.lemmas.List.{map_push, map_more, take_all}
use Rattle.clip_grammar.specs.Tree.{Tree, tree_of, clauses_of}
use Rattle.clip_grammar.specs.declared.query.Occur.{Occur}
use Rattle.clip_grammar.specs.declared.query.Query.{Query}
use Rattle.clip_grammar.specs.declared.query.Query.TheViews.{Group}
use Rattle.clip_grammar.proofs.Trees.{tree_of_group}

-- a clause, with the tree of its child
abbrev pub seen : Occur × Query → Occur × Tree
seen c = (c.0, tree_of c.1)

-- one clause more
pub copy_added : (items copies new : List (Occur × Query)) (i : ℕ) (item : Occur × Query) (copy : Query)
    → i < length items → item ≡ get_or items i item
    → map seen copies ≡ map seen (take i items) → tree_of copy ≡ tree_of item.1 → new ≡ copies ++ (item.0, copy) ∷ []
    → map seen new ≡ map seen (take (i + 1) items)
copy_added items copies new i item copy lt is before same e =
    ap (map seen) e ∙ map_push seen copies (item.0, copy)
    ∙ ap (λ l. l ++ (item.0, tree_of copy) ∷ []) before
    ∙ ap (λ t. map seen (take i items) ++ (item.0, t) ∷ []) same
    ∙ ap (λ x. map seen (take i items) ++ seen x ∷ []) is
    ∙ sym (map_more seen items i item lt)

-- all clauses of a group
pub group_copied : (query : Query) (v copies : Vec (Occur × Query) Global) (items : List (Occur × Query)) (i : ℕ)
    → query ≡ Group v → items ≡ v.items → length items ≤ i
    → map seen copies.items ≡ map seen (take i items) → tree_of (Group copies) ≡ tree_of query
group_copied query v copies items i group same le all =
    tree_of_group copies
    ∙ ap (λ l. Tree.Group (clauses_of l)) (all ∙ ap (map seen) (take_all i items le ∙ same))
    ∙ sym (ap tree_of group ∙ tree_of_group v)
