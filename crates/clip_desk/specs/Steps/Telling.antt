-- How far a walk over listeners has come that tells each an event.
use Rattle.std.specs.Prelude.{◌≡◌, ℕ, ◌<◌, ◌≤◌, List, length, slice_get, Some, Bool}
use Rattle.clip_desk.specs.Updates.{Event, IsTold, heard_by}

-- the first n listeners are told the event, and the others are as they were
pub record IsToldTo {L : Type 0} (heard : L → List Event) (event : Event) (n : ℕ) (before after : List (L × Bool))
    : Type 0 where
  pub same : length after ≡ length before
  pub told : (k : ℕ) (p q : L × Bool) → k < n → slice_get before k ≡ Some p → slice_get after k ≡ Some q
      → IsTold event (heard_by heard p) (heard_by heard q)
  pub left : (k : ℕ) → n ≤ k → slice_get after k ≡ slice_get before k
