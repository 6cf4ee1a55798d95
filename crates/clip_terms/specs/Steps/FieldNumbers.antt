-- The numbers of a field's words, where each is, and the runs among them.
use Rattle.std.specs.Prelude.{◌≡◌, ℕ, ◌+◌, ◌-◌, ◌<◌, ◌≤◌, nat_le, Bool, true, false, cond, ◌&&◌, ◌||◌, List, [], ◌∷◌, ◌++◌}
use Rattle.std.specs.Prelude.{length, drop, get_or, slice_index, Option, Some, None}
use Rattle.std.specs.List.{list_any}
use Rattle.clip_meaning.specs.Hits.{is_within}
use Rattle.clip_terms.specs.Steps.Numbers.{number_at}
use Rattle.clip_terms.specs.Steps.Runs.{begins_with}
use Rattle.clip_terms.specs.declared.field_numbers.Anchor.{Anchor}
use Rattle.clip_terms.specs.declared.field_numbers.Spot.{Spot}

-- the spot of a position, where its word has a number
abbrev pub spot_of : Option ℕ → (position : ℕ) → List Spot
spot_of None position = []
spot_of (Some number) position = record { number = number; position = position } ∷ []

-- the spots of postings, where their words have numbers
abbrev pub spots_of : (numbers : List (Option ℕ)) → List (List ℕ × ℕ) → List Spot
spots_of numbers [] = []
spots_of numbers (p ∷ postings) = spot_of (number_at numbers p.1) p.1 ++ spots_of numbers postings

-- Each position of the number is among the spots.
pub record HasEach (numbers : List (Option ℕ)) (number : ℕ) (spots : List Spot) : Type 0 where
  pub each : (position : ℕ) → number_at numbers position ≡ Some number
      → (test : Spot → Bool) → test (record { number = number; position = position }) ≡ true
      → list_any test spots ≡ true

-- No number is below one before it.
pub record NumbersRise (spots : List Spot) : Type 0 where
  pub rise : (i j : ℕ) (d : Spot) → i ≤ j → j < length spots → (get_or spots i d).number ≤ (get_or spots j d).number

-- The spots have each position of each number, in the order of the numbers.
pub record AreSpotsOf (numbers : List (Option ℕ)) (spots : List Spot) : Type 0 where
  pub rise : NumbersRise spots
  pub all : (number : ℕ) → HasEach numbers number spots

-- The anchor has each position of the run's number at its place.
pub record IsAnchor (numbers : List (Option ℕ)) (run : List ℕ) (anchor : Anchor) : Type 0 where
  pub within : anchor.place < length run
  pub spots : HasEach numbers (slice_index run anchor.place) anchor.spots.now

-- the run occurs so that its number of this place is at the spot
abbrev pub begins_before : (run : List ℕ) (numbers : List (Option ℕ)) (place : ℕ) → Spot → Bool
begins_before run numbers place spot =
    nat_le place spot.position && begins_with run (drop (spot.position - place) numbers)

-- the run occurs so that its number of this place is at the spot, and the position is one of the run's
abbrev pub covers_before : (run : List ℕ) (numbers : List (Option ℕ)) (place position : ℕ) → Spot → Bool
covers_before run numbers place position spot =
    begins_before run numbers place spot && is_within (spot.position - place) (length run) position

-- where the run starts whose number of this place is at the spot, if it occurs so
abbrev pub start_before : (run : List ℕ) (numbers : List (Option ℕ)) (place : ℕ) → Spot → Option ℕ
start_before run numbers place spot =
    cond (begins_before run numbers place spot) (Some (spot.position - place)) None

-- somewhere among the numbers, of which the first is that of `start`, the run occurs, and the position is the run's
abbrev pub is_covered_from : (run : List ℕ) (position start : ℕ) → List (Option ℕ) → Bool
is_covered_from run position start [] = false
is_covered_from run position start (m ∷ numbers) =
    (begins_with run (m ∷ numbers) && is_within start (length run) position)
    || is_covered_from run position (start + 1) numbers
