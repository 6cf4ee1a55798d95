-- How a text is read as a query, or why it is none and where.
use Rattle.std.specs.Prelude.{◌≡◌, ◌≢◌, ℕ, ◌≤◌, Bool, true, false, List, map, length}
use Rattle.std.specs.List.{list_any}
use Rattle.clip_grammar.specs.Tree.{Tree, tree_of, nodes}
use Rattle.clip_grammar.specs.Reading.{Reads, HasNoFault, IsFault}
use Rattle.clip_grammar.specs.declared.fault.QueryFault.TheVariants as faults
use Rattle.clip_meaning.specs.Article.{Fields}
use Rattle.clip_extract.specs.Keys.{KeyValue, Any, Word, Front, key_of, share}
use Rattle.clip_extract.specs.Covering.{article_keys}
use Rattle.clip_extract.specs.Extraction.{query_keys, query_weight}
use Rattle.clip_explain.specs.Certain.{is_never, is_always}
use Rattle.clip_explain.specs.Places.{IsPlace}
use Rattle.clip_explain.specs.declared.explaining.Explanation.{Explanation}
use Rattle.clip_explain.specs.declared.explaining.Refusal.{Refusal}
use Rattle.clip_explain.specs.declared.explaining.Explained.{Explained}
use Rattle.clip_explain.specs.declared.explaining.Explained.TheVariants.{Read, Refused}

abbrev pub is_any : KeyValue → Bool
is_any Any = true
is_any (Word field word) = false
is_any (Front field front) = false

-- among the query's keys is the one that every article has
abbrev pub is_tried_on_all : Tree → Bool
is_tried_on_all tree = list_any is_any (query_keys tree)

-- the keys of such a query and of any article have one in common
abbrev pub TriedOnAll : Type 0
TriedOnAll = (tree : Tree) (fields : Fields) → is_tried_on_all tree ≡ true
    → share (query_keys tree) (article_keys fields) ≡ true

-- The text is read as this query, of which the rest is told.
pub record IsReadAs (text : List ℕ) (told : Explanation) : Type 0 where
  pub reads : Reads text (tree_of told.query)
  pub faultless : HasNoFault text
  pub keys : map key_of told.keys.items ≡ query_keys (tree_of told.query)
  pub weight : told.weight ≡ query_weight (tree_of told.query)
  pub nodes : told.nodes ≡ nodes (tree_of told.query)
  pub tried_on_all : told.tried_on_all ≡ is_tried_on_all (tree_of told.query)
  pub never : told.never ≡ is_never (tree_of told.query)
  pub always : told.always ≡ is_always (tree_of told.query)

-- The text is no query, for this reason, at this byte.
pub record IsRefusedFor (text : List ℕ) (why : Refusal) : Type 0 where
  pub fault : IsFault text why.fault
  pub sure : why.fault ≢ faults.NoMemory
  pub place : IsPlace text why.fault why.at
  pub within : why.at ≤ length text

-- what is told of a text
abbrev pub Explains : List ℕ → Explained → Type 0
Explains text (Read told) = IsReadAs text told
Explains text (Refused why) = IsRefusedFor text why
