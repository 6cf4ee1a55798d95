-- Where the flags of a field's words end that may be up.
use Rattle.std.specs.Prelude.{◌≡◌, ℕ, ◌≤◌, false, List, length, get_or}
use Rattle.clip_meaning.specs.Steps.Marks.{is_up}

-- The end is no further than there are flags, and from it on none is up.
pub record IsEnd (flags : List ℕ) (end : ℕ) : Type 0 where
  pub within : end ≤ length flags
  pub down : (k : ℕ) → end ≤ k → is_up (get_or flags k 0) ≡ false
