-- Plans: a query as a list of marks, by which it is judged from front to back.
use Rattle.std.specs.Prelude.{ℕ, Bool, List, [], ◌∷◌, ◌++◌, map, length, flat_map, Option, None, unwrap_or, slice_get}
use Rattle.std.specs.List.{list_all, list_any}
use Rattle.clip_grammar.specs.Tree.{Tree, Clauses, none, clause}
use Rattle.clip_grammar.specs.declared.query.Occur.{Occur}
use Rattle.clip_grammar.specs.declared.query.Occur.TheVariants.{Must, Should}
use Rattle.clip_extract.specs.Keys.{KeyValue, Word, is_same}
use Rattle.clip_terms.specs.Terms.{term_at}

-- ---- marks

-- what a leaf asks of an article, where K names a key: that it has the key, that these stand in a field one after the
-- other, or that the query holds
pub data Asks (K : Type 0) : Type 0 where
  Has : K → Asks K
  Run : List K → Asks K
  Is : Tree → Asks K

-- A leaf as a clause; a group's beginning, with how many marks stand between it and the group's end; and the end. Both
-- say as which clause the group stands.
pub data Mark (K : Type 0) : Type 0 where
  Leaf : Occur → Asks K → Mark K
  Open : Occur → (inside : ℕ) → Mark K
  Close : Occur → Mark K

abbrev pub named_asks : {J K : Type 0} → (J → K) → Asks J → Asks K
named_asks f (Has k) = Has (f k)
named_asks f (Run ks) = Run (map f ks)
named_asks f (Is tree) = Is tree

-- the mark with other names of keys
abbrev pub named : {J K : Type 0} → (J → K) → Mark J → Mark K
named f (Leaf occur asks) = Leaf occur (named_asks f asks)
named f (Open occur inside) = Open occur inside
named f (Close occur) = Close occur

-- marks with the terms in the place of their numbers
abbrev pub decoded : List KeyValue → List (Mark ℕ) → List (Mark KeyValue)
decoded terms marks = map (named (term_at terms)) marks

-- ---- the keys that marks name

abbrev pub asks_names : {K : Type 0} → Asks K → List K
asks_names (Has k) = k ∷ []
asks_names (Run ks) = ks
asks_names (Is tree) = []

abbrev pub mark_names : {K : Type 0} → Mark K → List K
mark_names (Leaf occur asks) = asks_names asks
mark_names (Open occur inside) = []
mark_names (Close occur) = []

-- those of a plan, in order
abbrev pub names : {K : Type 0} → List (Mark K) → List K
names marks = flat_map mark_names marks

-- the new number of a number, by a list of new ones; 0 where it has none
abbrev pub renumbered : List (Option ℕ) → ℕ → ℕ
renumbered numbers n = unwrap_or (unwrap_or (slice_get numbers n) None) 0

-- a plan with new numbers
abbrev pub renamed : List (Option ℕ) → List (Mark ℕ) → List (Mark ℕ)
renamed numbers marks = map (named (renumbered numbers)) marks

-- ---- the plan of a query

abbrev mutual
  -- a query as a clause; a group whose only clause must or may hold is that clause's child
  pub clause_marks : Occur → Tree → List (Mark KeyValue)
  clause_marks occur (Tree.Term field word) = Leaf occur (Has (Word field word)) ∷ []
  clause_marks occur (Tree.Phrase field words) = Leaf occur (Run (map (Word field) words)) ∷ []
  clause_marks occur (Tree.Prefix field front) = Leaf occur (Is (Tree.Prefix field front)) ∷ []
  clause_marks occur (Tree.Span field low high) = Leaf occur (Is (Tree.Span field low high)) ∷ []
  clause_marks occur Tree.All = Leaf occur (Is Tree.All) ∷ []
  clause_marks occur (Tree.Group (clause Must child none)) = clause_marks occur child
  clause_marks occur (Tree.Group (clause Should child none)) = clause_marks occur child
  clause_marks occur (Tree.Group clauses) =
      Open occur (length (group_marks clauses)) ∷ group_marks clauses ++ Close occur ∷ []

  pub group_marks : Clauses → List (Mark KeyValue)
  group_marks none = []
  group_marks (clause occur child others) = clause_marks occur child ++ group_marks others

-- the clauses of a group; of another query, the query as the only clause, which must hold; a group whose only clause
-- must or may hold has the plan of that clause's child
abbrev pub plan_of : Tree → List (Mark KeyValue)
plan_of (Tree.Group (clause Must child none)) = plan_of child
plan_of (Tree.Group (clause Should child none)) = plan_of child
plan_of (Tree.Group clauses) = group_marks clauses
plan_of leaf = clause_marks Must leaf

-- ---- the words that a plan asks for

abbrev mutual
  -- the words of a query's terms and phrases, as keys
  pub word_keys : Tree → List KeyValue
  word_keys (Tree.Term field word) = Word field word ∷ []
  word_keys (Tree.Phrase field words) = map (Word field) words
  word_keys (Tree.Prefix field front) = []
  word_keys (Tree.Span field low high) = []
  word_keys Tree.All = []
  word_keys (Tree.Group clauses) = clause_word_keys clauses

  pub clause_word_keys : Clauses → List KeyValue
  clause_word_keys none = []
  clause_word_keys (clause occur child others) = word_keys child ++ clause_word_keys others

-- each is a term
abbrev pub are_terms : List KeyValue → List KeyValue → Bool
are_terms terms keys = list_all (λ key. list_any (is_same key) terms) keys
