-- A code of query trees, by which a type whose value holds a query has a model: the nodes of the tree, children before
-- parents.
use Rattle.std.specs.Prelude.{◌≡◌, ℕ, zero, suc, Bool, true, false, List, [], ◌∷◌, Option, Some, None, refl, ◌⊎◌}
use Rattle.std.specs.Coded.{Coded, code_by, coded×, coded⊎, coded_ℕ, coded_bool, coded_list, coded_option}
use Rattle.std.proofs.Common.{inl, inr, ◌∙◌}
use Rattle.clip_grammar.specs.Tokens.{End}
use Rattle.clip_grammar.specs.Tree.{Tree, Clauses, none, clause}
use Rattle.clip_grammar.specs.declared.query.Occur.{Occur}
use Rattle.clip_grammar.specs.declared.query.Occur.TheVariants.{Must, Should, MustNot}

-- ---- ends of ranges

abbrev end_parts : End → Option (Bool × List ℕ)
end_parts End.Free = None
end_parts (End.With text) = Some (true, text)
end_parts (End.Without text) = Some (false, text)

abbrev end_made : Option (Bool × List ℕ) → End
end_made None = End.Free
end_made (Some (true, text)) = End.With text
end_made (Some (false, text)) = End.Without text

pub end_again : (e : End) → end_made (end_parts e) ≡ e
end_again End.Free = refl
end_again (End.With text) = refl
end_again (End.Without text) = refl

abbrev pub bytes_code : Coded (List ℕ)
bytes_code = coded_list coded_ℕ

abbrev end_code : Coded End
end_code = code_by (Option (Bool × List ℕ)) (coded_option (coded× coded_bool bytes_code)) end_parts end_made end_again

-- ---- nodes

-- a node without its children; `Listed` puts a child before the clauses that follow it
pub data Node : Type 0 where
  Term : (field word : List ℕ) → Node
  Phrase : (field : List ℕ) → (words : List (List ℕ)) → Node
  Prefix : (field front : List ℕ) → Node
  Span : (field : List ℕ) → (low high : End) → Node
  All : Node
  Group : Node
  Ended : Node
  Listed : Occur → Node

abbrev Parts : Type 0
Parts = (List ℕ × List ℕ) ⊎ ((List ℕ × List (List ℕ)) ⊎ ((List ℕ × List ℕ) ⊎ ((List ℕ × (End × End)) ⊎ ℕ)))

abbrev node_parts : Node → Parts
node_parts (Node.Term field word) = inl (field, word)
node_parts (Node.Phrase field words) = inr (inl (field, words))
node_parts (Node.Prefix field front) = inr (inr (inl (field, front)))
node_parts (Node.Span field low high) = inr (inr (inr (inl (field, (low, high)))))
node_parts Node.All = inr (inr (inr (inr 0)))
node_parts Node.Group = inr (inr (inr (inr 1)))
node_parts Node.Ended = inr (inr (inr (inr 2)))
node_parts (Node.Listed Must) = inr (inr (inr (inr 3)))
node_parts (Node.Listed Should) = inr (inr (inr (inr 4)))
node_parts (Node.Listed MustNot) = inr (inr (inr (inr 5)))

abbrev numbered : ℕ → Node
numbered zero = Node.All
numbered (suc zero) = Node.Group
numbered (suc (suc zero)) = Node.Ended
numbered (suc (suc (suc zero))) = Node.Listed Must
numbered (suc (suc (suc (suc zero)))) = Node.Listed Should
numbered (suc (suc (suc (suc (suc n))))) = Node.Listed MustNot

abbrev node_made : Parts → Node
node_made (inl (field, word)) = Node.Term field word
node_made (inr (inl (field, words))) = Node.Phrase field words
node_made (inr (inr (inl (field, front)))) = Node.Prefix field front
node_made (inr (inr (inr (inl (field, (low, high)))))) = Node.Span field low high
node_made (inr (inr (inr (inr n)))) = numbered n

pub node_again : (n : Node) → node_made (node_parts n) ≡ n
node_again (Node.Term field word) = refl
node_again (Node.Phrase field words) = refl
node_again (Node.Prefix field front) = refl
node_again (Node.Span field low high) = refl
node_again Node.All = refl
node_again Node.Group = refl
node_again Node.Ended = refl
node_again (Node.Listed Must) = refl
node_again (Node.Listed Should) = refl
node_again (Node.Listed MustNot) = refl

abbrev parts_code : Coded Parts
parts_code =
    coded⊎ (coded× bytes_code bytes_code)
    (coded⊎ (coded× bytes_code (coded_list bytes_code))
    (coded⊎ (coded× bytes_code bytes_code)
    (coded⊎ (coded× bytes_code (coded× end_code end_code)) coded_ℕ)))

abbrev node_code : Coded Node
node_code = code_by Parts parts_code node_parts node_made node_again

-- ---- trees

abbrev mutual
  -- the nodes of a tree, and then these
  nodes_then : Tree → List Node → List Node
  nodes_then (Tree.Term field word) ns = Node.Term field word ∷ ns
  nodes_then (Tree.Phrase field words) ns = Node.Phrase field words ∷ ns
  nodes_then (Tree.Prefix field front) ns = Node.Prefix field front ∷ ns
  nodes_then (Tree.Span field low high) ns = Node.Span field low high ∷ ns
  nodes_then Tree.All ns = Node.All ∷ ns
  nodes_then (Tree.Group clauses) ns = clauses_then clauses (Node.Group ∷ ns)

  clauses_then : Clauses → List Node → List Node
  clauses_then none ns = Node.Ended ∷ ns
  clauses_then (clause occur tree clauses) ns = nodes_then tree (clauses_then clauses (Node.Listed occur ∷ ns))

-- the tree of the nodes, with the trees and the clauses that are made and not yet used
abbrev rebuilt : List Node → List Tree → List Clauses → Tree
rebuilt [] [] groups = Tree.All
rebuilt [] (tree ∷ trees) groups = tree
rebuilt (Node.Term field word ∷ ns) trees groups = rebuilt ns (Tree.Term field word ∷ trees) groups
rebuilt (Node.Phrase field words ∷ ns) trees groups = rebuilt ns (Tree.Phrase field words ∷ trees) groups
rebuilt (Node.Prefix field front ∷ ns) trees groups = rebuilt ns (Tree.Prefix field front ∷ trees) groups
rebuilt (Node.Span field low high ∷ ns) trees groups = rebuilt ns (Tree.Span field low high ∷ trees) groups
rebuilt (Node.All ∷ ns) trees groups = rebuilt ns (Tree.All ∷ trees) groups
rebuilt (Node.Group ∷ ns) trees [] = Tree.All
rebuilt (Node.Group ∷ ns) trees (clauses ∷ groups) = rebuilt ns (Tree.Group clauses ∷ trees) groups
rebuilt (Node.Ended ∷ ns) trees groups = rebuilt ns trees (none ∷ groups)
rebuilt (Node.Listed occur ∷ ns) (tree ∷ trees) (clauses ∷ groups) =
    rebuilt ns trees (clause occur tree clauses ∷ groups)
rebuilt (Node.Listed occur ∷ ns) _ _ = Tree.All

mutual
  pub tree_rebuilt : (tree : Tree) (ns : List Node) (trees : List Tree) (groups : List Clauses)
      → rebuilt (nodes_then tree ns) trees groups ≡ rebuilt ns (tree ∷ trees) groups
  tree_rebuilt (Tree.Term field word) ns trees groups = refl
  tree_rebuilt (Tree.Phrase field words) ns trees groups = refl
  tree_rebuilt (Tree.Prefix field front) ns trees groups = refl
  tree_rebuilt (Tree.Span field low high) ns trees groups = refl
  tree_rebuilt Tree.All ns trees groups = refl
  tree_rebuilt (Tree.Group clauses) ns trees groups = clauses_rebuilt clauses (Node.Group ∷ ns) trees groups

  pub clauses_rebuilt : (clauses : Clauses) (ns : List Node) (trees : List Tree) (groups : List Clauses)
      → rebuilt (clauses_then clauses ns) trees groups ≡ rebuilt ns trees (clauses ∷ groups)
  clauses_rebuilt none ns trees groups = refl
  clauses_rebuilt (clause occur tree clauses) ns trees groups =
      tree_rebuilt tree (clauses_then clauses (Node.Listed occur ∷ ns)) trees groups
      ∙ clauses_rebuilt clauses (Node.Listed occur ∷ ns) (tree ∷ trees) groups

abbrev pub tree_code : Coded Tree
tree_code = code_by (List Node) (coded_list node_code) (λ tree. nodes_then tree []) (λ ns. rebuilt ns [] [])
    (λ tree. tree_rebuilt tree [] [] [])
