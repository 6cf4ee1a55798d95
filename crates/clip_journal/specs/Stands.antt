-- Where a journal stands, and what a stop of the machine leaves of it.
use Rattle.std.specs.Prelude.{◌≡◌, ℕ, ◌+◌, ◌<◌, ◌≤◌, ◌^◌, List, length, true}
use Rattle.clip_journal.specs.Entries.{link_behind, first_link}
use Rattle.clip_journal.specs.Kept.{Kept, Reads, bytes_of, said_by, front}
use Rattle.clip_journal.specs.declared.journal.Journal.{Journal}

-- The bytes are read back as what is kept with a front of its commands, at least the first so many of them.
pub record IsFront (kept : Kept) (safe : ℕ) (bytes : List ℕ) : Type 0 where
  pub many : ℕ
  pub torn : List ℕ
  pub least : safe ≤ many
  pub most : many ≤ length kept.since
  pub reads : Reads bytes (front many kept) torn

-- The journal has this in its store and takes more, and a stop at this moment leaves a front of it, with at least the
-- first so many commands.
pub record Stands {S : Type 0} (seen : S → List ℕ) (may_leave : S → List ℕ → Type 0) (journal : Journal S)
    (kept : Kept) (safe : ℕ) : Type 0 where
  pub bytes : seen journal.store ≡ bytes_of kept
  pub counted : kept.changes + length kept.since < 2 ^ 63
  pub accepted : journal.accepted ≡ kept.changes + length kept.since
  pub live : journal.live ≡ length kept.live
  pub place : journal.place ≡ length (said_by kept)
  pub link : journal.link ≡ link_behind first_link 0 (said_by kept)
  pub is_open : journal.is_open ≡ true
  pub enough : safe ≤ length kept.since
  pub stop : (left : List ℕ) → may_leave journal.store left → IsFront kept safe left

-- the bytes of what is kept in other bytes
abbrev pub IsWholeOf : List ℕ → List ℕ → Type 0
IsWholeOf bytes left = (kept : Kept) × (torn : List ℕ) × Reads bytes kept torn × (left ≡ bytes_of kept)
