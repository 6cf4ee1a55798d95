-- The keys of an article, and the law that a query's keys cover it.
use Rattle.std.specs.Prelude.{◌≡◌, ℕ, true, List, [], ◌∷◌, ◌++◌, map, flat_map}
use Rattle.std.specs.FinMap as finite
use Rattle.clip_grammar.specs.Tree.{Tree}
use Rattle.clip_meaning.specs.Article.{Fields}
use Rattle.clip_meaning.specs.Meaning.{holds}
use Rattle.clip_extract.specs.Keys.{KeyValue, Any, Word, Front, in_order, share}
use Rattle.clip_extract.specs.Fronts.{fronts}
use Rattle.clip_extract.specs.Extraction.{query_keys, second_keys}

-- a field's words as keys
abbrev pub field_keys : List ℕ × List (List ℕ) → List KeyValue
field_keys field = map (Word field.0) field.1

-- the fronts of a field's words as keys
abbrev pub front_keys : List ℕ × List (List ℕ) → List KeyValue
front_keys field = map (Front field.0) (flat_map fronts field.1)

-- Any, each word of each field, and the fronts of these words; in order, each once
abbrev pub article_keys : Fields → List KeyValue
article_keys fields = in_order
    (Any ∷ flat_map field_keys (finite.entries fields) ++ flat_map front_keys (finite.entries fields))

-- where a query holds of an article, their keys have one in common
abbrev pub Covers : Type 0
Covers = (tree : Tree) (fields : Fields) → holds tree fields ≡ true
    → share (query_keys tree) (article_keys fields) ≡ true

-- where a query holds of an article and has second keys, these and the article's keys have one in common
abbrev pub CoversTwice : Type 0
CoversTwice = (tree : Tree) (fields : Fields) → holds tree fields ≡ true → ¬ (second_keys tree ≡ [])
    → share (second_keys tree) (article_keys fields) ≡ true
