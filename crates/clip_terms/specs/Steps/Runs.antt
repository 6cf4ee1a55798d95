-- Runs of numbers among the numbers of places.
use Rattle.std.specs.Prelude.{ℕ, Bool, true, false, ◌==◌, ◌&&◌, ◌||◌, List, [], ◌∷◌, Option, Some, None}

-- the place has this number
abbrev pub is_number : Option ℕ → ℕ → Bool
is_number None n = false
is_number (Some m) n = m == n

-- the numbers begin with those of the run
abbrev pub begins_with : (run : List ℕ) → List (Option ℕ) → Bool
begins_with [] numbers = true
begins_with (n ∷ run) [] = false
begins_with (n ∷ run) (m ∷ numbers) = is_number m n && begins_with run numbers

-- the numbers of the run are somewhere next to each other, in order
abbrev pub stands_among : (run : List ℕ) → List (Option ℕ) → Bool
stands_among run [] = false
stands_among run (m ∷ numbers) = begins_with run (m ∷ numbers) || stands_among run numbers
