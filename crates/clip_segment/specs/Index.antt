-- An index over queries: what it keeps of them.
use Rattle.std.specs.Prelude.{◌≡◌, ◌≤◌, ℕ, Bool, true, List, ◌++◌, map, flat_map, filter, length}
use Rattle.std.specs.List.{list_any, enumerate_from, count_by, sum_by}
use Rattle.clip_grammar.specs.Tree.{Tree}
use Rattle.clip_extract.specs.Keys.{KeyValue, in_order, is_same, share}
use Rattle.clip_extract.specs.Extraction.{query_keys, second_keys}
use Rattle.clip_plan.specs.Plan.{Mark, decoded, plan_of, word_keys}
use Rattle.clip_indexed.specs.declared.segment.TheConstants.{MOST_POSITIONS}

-- ---- positions of queries

-- the query has the key among those of its keys
abbrev pub has_key : (Tree → List KeyValue) → KeyValue → Tree → Bool
has_key keys_of key tree = list_any (is_same key) (keys_of tree)

-- the positions, from 0, of the queries that pass a test
abbrev pub query_positions : (Tree → Bool) → List Tree → List ℕ
query_positions test trees = map (λ e. e.0) (filter (λ e. test e.1) (enumerate_from 0 trees))

-- the positions of the queries that have the key among those of their keys
abbrev pub query_positions_with : (Tree → List KeyValue) → KeyValue → List Tree → List ℕ
query_positions_with keys_of key trees = query_positions (has_key keys_of key) trees

-- the positions of the queries that have one of the keys among those of their keys
abbrev pub query_positions_sharing : (Tree → List KeyValue) → List KeyValue → List Tree → List ℕ
query_positions_sharing keys_of keys trees = query_positions (λ tree. share (keys_of tree) keys) trees

-- of each of the keys the queries that have it among those of their keys, counted together
abbrev pub positions_under : (Tree → List KeyValue) → List KeyValue → List Tree → ℕ
positions_under keys_of keys trees = sum_by (λ key. count_by (has_key keys_of key) trees) keys

-- ---- indexes

-- terms, two lists of positions for each of them, a flag for each query, and plans over the numbers of terms
pub record IndexValue : Type 0 where
  pub terms : List KeyValue
  pub positions : List (List ℕ)
  pub seconds : List (List ℕ)
  pub needs : List Bool
  pub plans : List (List (Mark ℕ))

-- the keys of a query, its second keys, and the words that it asks for
abbrev pub asked_of : Tree → List KeyValue
asked_of tree = query_keys tree ++ second_keys tree ++ word_keys tree

-- the terms of queries, in order, each once
abbrev pub terms_of : List Tree → List KeyValue
terms_of trees = in_order (flat_map asked_of trees)

-- for each term the positions of the queries that have it among those of their keys
abbrev pub positions_by : (Tree → List KeyValue) → List KeyValue → List Tree → List (List ℕ)
positions_by keys_of terms trees = map (λ term. query_positions_with keys_of term trees) terms

-- the query has second keys
abbrev pub needs_second : Tree → Bool
needs_second tree = list_any (λ key. true) (second_keys tree)

-- The terms are those of the queries; each term has the positions of the queries that have it as a key, and of those
-- that have it as a second key; each query has its flag, whether it has second keys, and its plan.
pub record IsIndexOf (trees : List Tree) (index : IndexValue) : Type 0 where
  pub short : length trees ≤ MOST_POSITIONS
  pub terms : index.terms ≡ terms_of trees
  pub positions : index.positions ≡ positions_by query_keys index.terms trees
  pub seconds : index.seconds ≡ positions_by second_keys index.terms trees
  pub needs : index.needs ≡ map needs_second trees
  pub plans : map (decoded index.terms) index.plans ≡ map plan_of trees
