-- Lists of positions to whose end one is added, once.
use Rattle.std.specs.Prelude.{◌≡◌, ◌-◌, ℕ, Bool, false, nat_eq, List, [], ◌∷◌, ◌++◌, length, Option, Some, None}
use Rattle.std.specs.Prelude.{slice_get, if◌then◌else◌}
use Rattle.std.specs.List.{list_any}
use Rattle.clip_extract.specs.Keys.{KeyValue, is_same}

abbrev pub is_this : Option ℕ → ℕ → Bool
is_this None position = false
is_this (Some last) position = nat_eq last position

abbrev pub ends_with : List ℕ → ℕ → Bool
ends_with list position = is_this (slice_get list (length list - 1)) position

abbrev pub once_more : List ℕ → ℕ → List ℕ
once_more list position = if ends_with list position then list else list ++ position ∷ []

-- what stands under a term, with a position more where it is one of the keys
abbrev pub with_positions : List KeyValue → ℕ → (KeyValue → List ℕ) → KeyValue → List ℕ
with_positions keys position under term = under term ++ (if list_any (is_same term) keys then position ∷ [] else [])

-- no list under a term ends with the position
abbrev pub NoneEnds : (under : KeyValue → List ℕ) → ℕ → Type 0
NoneEnds under position = (term : KeyValue) → ends_with (under term) position ≡ false
