-- What is left of a query without the groups around it.
use Rattle.std.proofs.Common.{◌≡◌, ◌⊎◌, inl, inr, ◌<◌, List, [], ◌∷◌, map, length, get_or, Vec, Global}
use Rattle.std.proofs.Common.{refl, sym, ap, ◌∙◌, subst, arith}
use Rattle.clip_grammar.specs.Tree.{Tree, Clauses, none, clause, clauses_of, tree_of, nodes, bare}
use Rattle.clip_grammar.specs.declared.query.Occur.{Occur}
use Rattle.clip_grammar.specs.declared.query.Occur.TheVariants.{Must, Should, MustNot}
use Rattle.clip_grammar.specs.declared.query.Query.{Query}
use Rattle.clip_grammar.specs.declared.query.Query.TheViews.{Group}
use Rattle.clip_grammar.proofs.Trees.{tree_of_group}

abbrev trees : List (Occur × Query) → Clauses
trees cs = clauses_of (map (λ c. (c.0, tree_of c.1)) cs)

group_tree : (query : Query) (v : Vec (Occur × Query) Global) → query ≡ Group v
    → tree_of query ≡ Tree.Group (trees v.items)
group_tree query v group = ap tree_of group ∙ tree_of_group v

only_tree : (query : Query) (v : Vec (Occur × Query) Global) (c : Occur × Query) → query ≡ Group v
    → length v.items ≡ 1 → c ≡ get_or v.items 0 c → tree_of query ≡ Tree.Group (clause c.0 (tree_of c.1) none)
only_tree query v c group one is = group_tree query v group ∙ ap (λ l. Tree.Group (trees l)) (only v.items one is)
  where
    only : (cs : List (Occur × Query)) → length cs ≡ 1 → c ≡ get_or cs 0 c → cs ≡ c ∷ []
    only [] one is = absurd (omega (arith, one))
    only (x ∷ []) one is = ap (λ y. y ∷ []) (sym is)
    only (x ∷ y ∷ xs) one is = absurd (omega (arith, one))

-- of a group whose only clause must or may hold, what is left of its child
pub child_left : (query : Query) (v : Vec (Occur × Query) Global) (c : Occur × Query) → query ≡ Group v
    → length v.items ≡ 1 → c ≡ get_or v.items 0 c → (c.0 ≡ Must) ⊎ (c.0 ≡ Should)
    → bare (tree_of c.1) ≡ bare (tree_of query)
child_left query v c group one is asks = by_occur asks ∙ sym (ap bare (only_tree query v c group one is))
  where
    by_occur : (c.0 ≡ Must) ⊎ (c.0 ≡ Should)
        → bare (tree_of c.1) ≡ bare (Tree.Group (clause c.0 (tree_of c.1) none))
    by_occur (inl must) = ap (λ o. bare (Tree.Group (clause o (tree_of c.1) none))) (sym must)
    by_occur (inr should) = ap (λ o. bare (Tree.Group (clause o (tree_of c.1) none))) (sym should)

-- the child of a group of one clause has fewer nodes
pub child_nodes : (query : Query) (v : Vec (Occur × Query) Global) (c : Occur × Query) → query ≡ Group v
    → length v.items ≡ 1 → c ≡ get_or v.items 0 c → nodes (tree_of c.1) < nodes (tree_of query)
child_nodes query v c group one is = omega (arith, ap nodes (only_tree query v c group one is))

-- of a group whose only clause is excluded, the group
pub excluded_left : (query : Query) (v : Vec (Occur × Query) Global) (c : Occur × Query) → query ≡ Group v
    → length v.items ≡ 1 → c ≡ get_or v.items 0 c → c.0 ≡ MustNot → bare (tree_of query) ≡ tree_of query
excluded_left query v c group one is excluded = subst (λ t. bare t ≡ t)
    (sym (only_tree query v c group one is ∙ ap (λ o. Tree.Group (clause o (tree_of c.1) none)) excluded)) refl

-- of a group with no clause, or with several, the group
pub whole_left : (query : Query) (v : Vec (Occur × Query) Global) → query ≡ Group v → (length v.items ≡ 1 → ⊥)
    → bare (tree_of query) ≡ tree_of query
whole_left query v group apart = subst (λ t. bare t ≡ t) (sym (group_tree query v group)) (whole v.items apart)
  where
    several : (occur o : Occur) (child c : Tree) (others : Clauses)
        → bare (Tree.Group (clause occur child (clause o c others)))
        ≡ Tree.Group (clause occur child (clause o c others))
    several Must o child c others = refl
    several Should o child c others = refl
    several MustNot o child c others = refl

    whole : (cs : List (Occur × Query)) → (length cs ≡ 1 → ⊥)
        → bare (Tree.Group (trees cs)) ≡ Tree.Group (trees cs)
    whole [] apart = refl
    whole (x ∷ []) apart = absurd (apart refl)
    whole (x ∷ y ∷ xs) apart = several x.0 y.0 (tree_of x.1) (tree_of y.1) (trees xs)
