-- How the beginnings of a run repeat, by which a search moves it on.
use Rattle.std.specs.Prelude.{◌≡◌, ℕ, ◌+◌, ◌<◌, ◌≤◌, true, false, ◌||◌, List, get_or, length, slice_index, Option}
use Rattle.std.specs.Prelude.{None, drop}
use Rattle.clip_meaning.specs.Hits.{is_within}
use Rattle.clip_meaning.specs.Steps.Marks.{is_up}
use Rattle.clip_terms.specs.Steps.FieldNumbers.{is_covered_from}
use Rattle.clip_terms.specs.Steps.Runs.{is_number, begins_with}
use Rattle.clip_terms.specs.declared.repeats.Aligned.{Aligned}
use Rattle.clip_terms.specs.declared.repeats.Span.{Span}
use Rattle.clip_terms.specs.declared.repeats.Repeats.{Repeats}
use Rattle.clip_terms.specs.declared.repeats.TheConstants.{MOST_SPANS}

-- of a run's first `length` numbers each occurs again `shift` later, as far as they go
pub record Returns (run : List ℕ) (shift length : ℕ) : Type 0 where
  pub same : (j : ℕ) → j + shift < length → slice_index run (j + shift) ≡ slice_index run j

-- a run's first `length` numbers do not occur again after fewer numbers than `shift`, but for none
abbrev pub NoneBelow : (run : List ℕ) (shift length : ℕ) → Type 0
NoneBelow run shift length = (d : ℕ) → 0 < d → d < shift → Returns run d length → ⊥

-- Each beginning of a length of the span returns after its period, of which it has at least two, and after no fewer.
pub record IsSpan (run : List ℕ) (span : Span) : Type 0 where
  pub some : 0 < span.period
  pub twice : span.period + span.period ≤ span.from
  pub returns : Returns run span.period span.upto
  pub least : NoneBelow run span.period span.from

-- a length is none of the span's
abbrev pub IsOutside : Span → (length : ℕ) → Type 0
IsOutside span length = span.from ≤ length → length ≤ span.upto → ⊥

-- The spans are a run's, and a beginning of a length that is known returns after half of it or fewer only in a span.
pub record AreRepeats (repeats : Repeats) : Type 0 where
  pub long : length repeats.spans ≡ MOST_SPANS
  pub few : repeats.count ≤ length repeats.spans
  pub some : 0 < repeats.known
  pub spans : (k : ℕ) (other : Span) → k < repeats.count → IsSpan repeats.run.now (get_or repeats.spans k other)
  pub all : (length d : ℕ) → length < repeats.known → 0 < d → d + d ≤ length
      → ((k : ℕ) (other : Span) → k < repeats.count → IsOutside (get_or repeats.spans k other) length)
      → Returns repeats.run.now d length → ⊥

-- The run is moved on past positions at which it can't stand, and those of its numbers are kept that stand there again.
pub record Moves (run : List ℕ) (at next : Aligned) : Type 0 where
  pub shift : ℕ
  pub some : 0 < shift
  pub start : next.start ≡ at.start + shift
  pub within : (j : ℕ) → j < next.kept → j + shift < at.kept
  pub same : (j : ℕ) → j < next.kept → slice_index run (j + shift) ≡ slice_index run j
  pub least : NoneBelow run shift at.kept

-- so many of a run's numbers occur from a position on
abbrev pub Agree : (run : List ℕ) (numbers : List (Option ℕ)) (at : Aligned) → Type 0
Agree run numbers at = (j : ℕ) → j < at.kept → is_number (get_or numbers (at.start + j) None) (slice_index run j) ≡ true

-- the run begins at no position from one on up to another
abbrev pub NowhereIn : (run : List ℕ) (numbers : List (Option ℕ)) (from upto : ℕ) → Type 0
NowhereIn run numbers from upto = (p : ℕ) → from ≤ p → p < upto → begins_with run (drop p numbers) ≡ false

-- There the run occurs, and nowhere before it from where it was laid on.
pub record IsNext (run : List ℕ) (numbers : List (Option ℕ)) (at found : Aligned) : Type 0 where
  pub from : at.start ≤ found.start
  pub inside : found.start < length numbers
  pub whole : found.kept ≡ length run
  pub agree : Agree run numbers found
  pub nowhere : NowhereIn run numbers at.start found.start

-- The flags are those of before, and those of a run's positions where it occurs before a position; from there on all
-- are up before an end.
pub record AreMarked (run : List ℕ) (numbers : List (Option ℕ)) (old new : List ℕ) (start end : ℕ) : Type 0 where
  pub long : length new ≡ length old
  pub kept : (k : ℕ) → k < length old → is_up (get_or old k 0) ≡ true → is_up (get_or new k 0) ≡ true
  pub just : (k : ℕ) → k < length old → is_up (get_or new k 0) ≡ true
      → (is_up (get_or old k 0) || is_covered_from run k 0 numbers) ≡ true
  pub done : (k p : ℕ) → k < length old → p < start → begins_with run (drop p numbers) ≡ true
      → is_within p (length run) k ≡ true
      → is_up (get_or new k 0) ≡ true
  pub beyond : (k : ℕ) → k < length old → start ≤ k → k < end → is_up (get_or new k 0) ≡ true
  pub bound : end ≤ start + length run
