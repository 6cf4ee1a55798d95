-- What a run goes on from, of what a store had.
use Rattle.std.specs.Prelude.{◌≡◌, ◌⊎◌, ℕ, ◌+◌, List, ◌++◌, length}
use Rattle.clip_front.specs.Outcome.{OfKept}
use Rattle.clip_journal.specs.Kept.{Kept, Reads, bytes_of, compacted}
use Rattle.clip_keeping.specs.Live.{AreLive}

-- What was written anew in the place of the first, just the lines that register what that leaves live, after as many
-- changes, is read back as the second, where listeners of these names are here.
pub record IsShortened (names : List (List ℕ)) (kept now : Kept) : Type 0 where
  pub lines : List (List ℕ)
  pub live : OfKept names (kept.live ++ kept.since) (λ begins. AreLive begins lines)
  pub torn : List ℕ
  pub reads : Reads (bytes_of (compacted (kept.changes + length kept.since) lines)) now torn

-- The bytes are read back as this, or what was written anew in their place is.
pub record GoesOnFrom (names : List (List ℕ)) (bytes : List ℕ) (now : Kept) : Type 0 where
  pub kept : Kept
  pub torn : List ℕ
  pub reads : Reads bytes kept torn
  pub same : (now ≡ kept) ⊎ IsShortened names kept now
