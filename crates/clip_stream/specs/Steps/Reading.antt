-- How a reader takes one line after another.
use Rattle.std.specs.Prelude.{◌≡◌, ◌⊎◌, ℕ, suc, ◌+◌, ◌*◌, ◌<◌, ◌==◌, ◌||◌, List, [], ◌∷◌, ◌++◌, length, take, drop}
use Rattle.std.specs.Prelude.{Bool, true, false, if◌then◌else◌, Option, MatchOption}
use Rattle.std.specs.Io.KnownBytes.{Consumes}
use Rattle.clip_stream.specs.declared.limits.TheConstants.{MOST_LINE_BYTES}

-- ---- the next line

abbrev pub has_feed : List ℕ → Bool
has_feed [] = false
has_feed (b ∷ bytes) = (b == 10) || has_feed bytes

abbrev pub first_line : List ℕ → List ℕ
first_line [] = []
first_line (b ∷ bytes) = if b == 10 then [] else b ∷ first_line bytes

abbrev pub after_line : List ℕ → List ℕ
after_line [] = []
after_line (b ∷ bytes) = if b == 10 then bytes else after_line bytes

-- the first line feed is at this place of the bytes
pub record FeedsAt (bytes : List ℕ) (i : ℕ) : Type 0 where
  pub has : has_feed bytes ≡ true
  pub within : i < length bytes
  pub first : first_line bytes ≡ take i bytes
  pub after : after_line bytes ≡ drop (i + 1) bytes

-- the first line feed of the bytes is at this place, or there is none
abbrev pub IsFeedOf : Option ℕ → List ℕ → Type 0
IsFeedOf feed bytes = MatchOption feed (has_feed bytes ≡ false) (λ i. FeedsAt bytes i)

-- what is kept of a line: one byte more than a line may have tells that it is too long
unfoldable pub cut : List ℕ → List ℕ
cut line = take (suc MOST_LINE_BYTES) line

-- ---- the state of the reading

pub record Reading : Type 0 where
  pub pending : List ℕ
  pub reads_left : ℕ
  pub is_at_end : Bool

-- how many lines may come at most
abbrev pub fuel : Reading → ℕ
fuel r = 65536 * r.reads_left + length r.pending + (if r.is_at_end then 0 else 1)

-- From one state to the other the reader gave these bytes; none where its end was met before.
pub record Reads (old new : Reading) (left_old left_new : Option (List ℕ)) : Type 0 where
  pub bytes : List ℕ
  pub given : Consumes left_old left_new bytes
  pub idle : old.is_at_end ≡ true → (bytes ≡ []) × (new.is_at_end ≡ true)

-- these bytes have a whole line: one that a line feed ends, or what is there at the end
abbrev pub HasLine : Bool → List ℕ → Type 0
HasLine met_end bytes = (has_feed bytes ≡ true) ⊎ ((met_end ≡ true) × (0 < length bytes))

-- of these bytes the first line was taken, or there is none and none comes
abbrev pub TakesLine : Bool → Bool → List ℕ → List ℕ → List ℕ → Type 0
TakesLine true met_end bytes line rest =
    HasLine met_end bytes × (line ≡ cut (first_line bytes)) × (rest ≡ after_line bytes)
TakesLine false met_end bytes line rest = (bytes ≡ []) × (rest ≡ []) × (met_end ≡ true)

-- The next line was found in what was pending and what the reader gave, or there was none.
pub record FindsLine (found : Bool) (old new : Reading) (left_old left_new : Option (List ℕ)) (line : List ℕ) : Type 0
  where
    pub reads : Reads old new left_old left_new
    pub takes : TakesLine found new.is_at_end (old.pending ++ reads.bytes) line new.pending

-- No whole line was pending, and none came: the reader gave bytes without a line feed, and its end was not met.
pub record FindsNone (old new : Reading) (left_old left_new : Option (List ℕ)) : Type 0 where
  pub reads : Reads old new left_old left_new
  pub unended : has_feed (old.pending ++ reads.bytes) ≡ false
  pub unmet : new.is_at_end ≡ false

-- The beginning of a line was taken from what was pending and what the reader gave.
pub record Gathers (old now : Reading) (left_old left : Option (List ℕ)) (line : List ℕ) : Type 0 where
  pub reads : Reads old now left_old left
  pub front : List ℕ
  pub parts : old.pending ++ reads.bytes ≡ front ++ now.pending
  pub unended : has_feed front ≡ false
  pub is : line ≡ cut front
