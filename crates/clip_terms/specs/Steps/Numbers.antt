-- The numbers of an article's keys, as a reading is made of them.
use Rattle.std.specs.Prelude.{◌≡◌, ℕ, ◌<◌, Bool, true, nat_eq, List, [], ◌∷◌, ◌++◌, Option, None, option_to_list}
use Rattle.std.specs.Prelude.{unwrap_or, slice_get}
use Rattle.std.specs.List.{IsDistinct, list_any}

-- the numbers of a list in which some are missing
abbrev pub known : List (Option ℕ) → List ℕ
known [] = []
known (o ∷ numbers) = option_to_list o ++ known numbers

-- the number of the key at a place, if there is one
abbrev pub number_at : List (Option ℕ) → ℕ → Option ℕ
number_at by_key place = unwrap_or (slice_get by_key place) None

-- below a bound the flags say which numbers are among these
abbrev pub AreFlags : List Bool → (bound : ℕ) → List ℕ → Type 0
AreFlags flags bound numbers = (n : ℕ) → n < bound → unwrap_or (slice_get flags n) true ≡ list_any (nat_eq n) numbers

-- the numbers of a list, each once
pub record IsEachOnce (numbers each : List ℕ) : Type 0 where
  pub same : (n : ℕ) → list_any (nat_eq n) each ≡ list_any (nat_eq n) numbers
  pub once : IsDistinct nat_eq each
