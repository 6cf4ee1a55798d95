-- How the index of kept queries is made, one index after another.
use Rattle.std.specs.Prelude.{◌≡◌, ℕ, ◌+◌, ◌<◌, Bool, true, false, List, [], ◌∷◌, map, flat_map, Option, Some, None}
use Rattle.std.specs.Prelude.{option_to_list, unwrap_or, slice_get, length, vec_items, if◌then◌else◌}
use Rattle.clip_grammar.specs.Tree.{Tree}
use Rattle.clip_extract.specs.Extraction.{query_keys, second_keys}
use Rattle.clip_extract.specs.Keys.{KeyValue}
use Rattle.clip_terms.specs.Terms.{term_at}
use Rattle.clip_plan.specs.Plan.{Mark, decoded, plan_of}
use Rattle.clip_segment.specs.Index.{IndexValue, positions_by, query_positions_with}
use Rattle.clip_segment.specs.declared.index_selecting.KeptIndex.{KeptIndex}
use Rattle.clip_segment.specs.declared.term_lists.TermLists.{TermLists}

-- the flag of a place is set; a missing one is not
abbrev pub flag_at : List Bool → ℕ → Bool
flag_at flags place = unwrap_or (slice_get flags place) false

-- for each flag that is set the next position, from the first on
abbrev pub new_positions : (first : ℕ) → List Bool → List (Option ℕ)
new_positions first [] = []
new_positions first (flag ∷ flags) =
    if flag then Some first ∷ new_positions (first + 1) flags else None ∷ new_positions first flags

abbrev pub new_position : List (Option ℕ) → ℕ → Option ℕ
new_position moves position = unwrap_or (slice_get moves position) None

-- the new positions of those that have one
abbrev pub moved : List (Option ℕ) → List ℕ → List ℕ
moved moves old = flat_map (λ position. option_to_list (new_position moves position)) old

-- by which keys of a query lists are: by its second keys, or by its keys
abbrev pub keys_by : (second : Bool) → Tree → List KeyValue
keys_by true = second_keys
keys_by false = query_keys

-- the lists of an index by these
abbrev pub lists_by : (second : Bool) → IndexValue → List (List ℕ)
lists_by true index = index.seconds
lists_by false index = index.positions

-- the list of a number, an empty one without a number
abbrev pub listed : List (List ℕ) → Option ℕ → List ℕ
listed lists None = []
listed lists (Some number) = unwrap_or (slice_get lists number) []

-- the new positions that a source has under the term of a new number
abbrev pub taken : (second : Bool) → (number : ℕ) → KeptIndex → List ℕ
taken second number source =
    moved source.moves.items
    (listed (lists_by second source.index.now) (unwrap_or (slice_get source.numbers.items number) None))

-- over these terms the sources have the new positions of the queries, one behind another, and the plans are those of
-- the queries
pub record AreFrom (terms : List KeyValue) (trees : List Tree) (sources : List KeptIndex) (plans : List (List (Mark ℕ)))
    : Type 0 where
  pub placed : (second : Bool) (number : ℕ) → number < length terms → flat_map (taken second number) sources
      ≡ query_positions_with (keys_by second) (term_at terms number) trees
  pub planned : map (decoded terms) plans ≡ map plan_of trees

-- over these terms the lists have the positions of the queries, by their keys and by their second keys
pub record AreListsOf (terms : List KeyValue) (trees : List Tree) (lists : TermLists) : Type 0 where
  pub positions : map vec_items lists.positions.items ≡ positions_by query_keys terms trees
  pub seconds : map vec_items lists.seconds.items ≡ positions_by second_keys terms trees

-- so have these lists, and the plans are those of the queries
pub record AreMadeOf (terms : List KeyValue) (trees : List Tree) (by_key by_second : List (List ℕ))
    (plans : List (List (Mark ℕ))) : Type 0 where
  pub positions : by_key ≡ positions_by query_keys terms trees
  pub seconds : by_second ≡ positions_by second_keys terms trees
  pub planned : map (decoded terms) plans ≡ map plan_of trees
