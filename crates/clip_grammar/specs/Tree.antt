-- The tree of a query, without where it lies in memory. A text is its bytes.
use Rattle.std.specs.Prelude.{ℕ, ◌+◌, max, List, [], ◌∷◌, map, string_bytes}
use Rattle.std.specs.Arc.{arc_str_bytes}
use Rattle.clip_grammar.specs.Tokens.{End}
use Rattle.clip_grammar.specs.declared.query.Occur.{Occur}
use Rattle.clip_grammar.specs.declared.query.Occur.TheVariants.{Must, Should}
use Rattle.clip_grammar.specs.declared.query.Bound.{Bound}
use Rattle.clip_grammar.specs.declared.query.Bound.TheVariants as bound
use Rattle.clip_grammar.specs.declared.query.Query.{Query}
use Rattle.clip_grammar.specs.declared.query.Query.TheOpen as layer
use Rattle.clip_grammar.specs.declared.query.Query.TheFolds.{fold-Query}

mutual
  pub data Tree : Type 0 where
    Term : (field word : List ℕ) → Tree
    Phrase : (field : List ℕ) → (words : List (List ℕ)) → Tree
    Prefix : (field front : List ℕ) → Tree
    Span : (field : List ℕ) → (low high : End) → Tree
    All : Tree
    Group : Clauses → Tree

  pub data Clauses : Type 0 where
    none : Clauses
    clause : Occur → Tree → Clauses → Clauses

abbrev pub end_of : Bound → End
end_of bound.Free = End.Free
end_of (bound.With text) = End.With (string_bytes text)
end_of (bound.Without text) = End.Without (string_bytes text)

-- clauses in order
abbrev pub clauses_of : List (Occur × Tree) → Clauses
clauses_of [] = none
clauses_of (c ∷ cs) = clause c.0 c.1 (clauses_of cs)

-- a query, with the tree of each child in its place
abbrev pub tree_step : layer.Query-F Tree → Tree
tree_step (layer.Term field word) = Tree.Term (arc_str_bytes field) (arc_str_bytes word)
tree_step (layer.Phrase field words) = Tree.Phrase (arc_str_bytes field) (map arc_str_bytes words.items)
tree_step (layer.Prefix field front) = Tree.Prefix (arc_str_bytes field) (arc_str_bytes front)
tree_step (layer.Span field low high) = Tree.Span (arc_str_bytes field) (end_of low) (end_of high)
tree_step layer.All = Tree.All
tree_step (layer.Group clauses) = Tree.Group (clauses_of clauses.items)

-- the tree of a query
abbrev pub tree_of : Query → Tree
tree_of = fold-Query Tree tree_step

abbrev mutual
  -- how many nodes a tree has
  pub nodes : Tree → ℕ
  nodes (Tree.Group clauses) = clause_nodes clauses + 1
  nodes _ = 1

  pub clause_nodes : Clauses → ℕ
  clause_nodes none = 0
  clause_nodes (clause _ tree clauses) = nodes tree + clause_nodes clauses

abbrev mutual
  -- how deep its groups are nested
  pub depth : Tree → ℕ
  depth (Tree.Group clauses) = clause_depth clauses + 1
  depth _ = 0

  pub clause_depth : Clauses → ℕ
  clause_depth none = 0
  clause_depth (clause _ tree clauses) = max (depth tree) (clause_depth clauses)

-- a query without the groups around it whose only clause must or may hold
abbrev pub bare : Tree → Tree
bare (Tree.Group (clause Must child none)) = bare child
bare (Tree.Group (clause Should child none)) = bare child
bare tree = tree
