-- A query's tree as JSON.
use Rattle.std.specs.Prelude.{ℕ, Bool, true, false, List, [], ◌∷◌, ◌++◌, map, codes}
use Rattle.serde_json.specs.Data.{Data, null, boolean, string, array, Items, no_items, item}
use Rattle.clip_grammar.specs.Tokens.{End}
use Rattle.clip_grammar.specs.Tree.{Tree, Clauses, none, clause}
use Rattle.clip_grammar.specs.declared.query.Occur.{Occur}
use Rattle.clip_grammar.specs.declared.query.Occur.TheVariants.{Must, Should, MustNot}
use Rattle.clip_protocol.specs.Request.{object_of, array_of}

-- an end that a range has: its text, and whether the text itself is included
abbrev pub limit_data : (included : Bool) → (text : List ℕ) → Data
limit_data included text = object_of ((codes "included", boolean included) ∷ (codes "text", string text) ∷ [])

-- an end of a range, null where it is open
abbrev pub end_data : End → Data
end_data End.Free = null
end_data (End.With text) = limit_data true text
end_data (End.Without text) = limit_data false text

-- a leaf of this kind on a field, with more members
abbrev pub leaf_data : (kind field : List ℕ) → List (List ℕ × Data) → Data
leaf_data kind field members = object_of ((kind, object_of ((codes "field", string field) ∷ members)) ∷ [])

-- how a clause counts
abbrev pub occur_word : Occur → List ℕ
occur_word Must = codes "must"
occur_word Should = codes "should"
occur_word MustNot = codes "must_not"

-- a clause: how it counts, and its tree
abbrev pub clause_data : Occur → Data → Data
clause_data occur tree = object_of ((codes "occur", string (occur_word occur)) ∷ (codes "tree", tree) ∷ [])

abbrev mutual
  -- a leaf as an object named by its kind, and a group as the list of its clauses
  pub tree_data : Tree → Data
  tree_data (Tree.Term field word) = leaf_data (codes "term") field ((codes "word", string word) ∷ [])
  tree_data (Tree.Phrase field words) =
      leaf_data (codes "phrase") field ((codes "words", array_of (map string words)) ∷ [])
  tree_data (Tree.Prefix field front) = leaf_data (codes "prefix") field ((codes "front", string front) ∷ [])
  tree_data (Tree.Span field low high) =
      leaf_data (codes "range") field ((codes "high", end_data high) ∷ (codes "low", end_data low) ∷ [])
  tree_data Tree.All = string (codes "all")
  tree_data (Tree.Group clauses) = array (clauses_data clauses)

  pub clauses_data : Clauses → Items
  clauses_data none = no_items
  clauses_data (clause occur child others) = item (clause_data occur (tree_data child)) (clauses_data others)

abbrev mutual
  -- the words and the prefixes of a tree, in the order in which they stand there
  pub words_in : Tree → List (List ℕ)
  words_in (Tree.Term field word) = word ∷ []
  words_in (Tree.Phrase field words) = words
  words_in (Tree.Prefix field front) = front ∷ []
  words_in (Tree.Span field low high) = []
  words_in Tree.All = []
  words_in (Tree.Group clauses) = words_in_all clauses

  pub words_in_all : Clauses → List (List ℕ)
  words_in_all none = []
  words_in_all (clause occur child others) = words_in child ++ words_in_all others
