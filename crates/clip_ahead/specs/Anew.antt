-- Journals that are written anew while they take changes.
use Rattle.std.specs.Prelude.{◌≡◌, ⊤, ℕ, ◌+◌, ◌≤◌, List, [], ◌∷◌, ◌++◌, length, take}
use Rattle.clip_journal.specs.Kept.{Kept, Reads, compacted, HasDigestOf}
use Rattle.clip_journal.specs.Stands.{Stands}
use Rattle.clip_journal.specs.declared.journal.Journal.{Journal}
use Rattle.clip_journal.specs.declared.store.Store as store
use Rattle.clip_ahead.specs.Ahead.{Begun}
use Rattle.clip_ahead.specs.Changes.{changes_of}

-- The changes since a journal began or was written anew before, what was read back of it then, and the lines that were
-- written in the place of all that.
pub record Rewriting : Type 0 where
  pub changes : List (List ℕ)
  pub read : Kept
  pub lines : List (List ℕ)

abbrev pub with_commands : Kept → List (List ℕ) → Kept
with_commands kept more = record kept { since = kept.since ++ more }

abbrev pub written_anew : Kept → Rewriting → Kept
written_anew kept r = compacted (kept.changes + length (kept.since ++ r.changes)) r.lines

-- what is kept behind these, of which the last stands first
abbrev pub kept_after : Kept → List Rewriting → Kept
kept_after kept [] = kept
kept_after kept (r ∷ before) = written_anew (kept_after kept before) r

-- the changes before the last of them, in order
abbrev pub changes_before : List Rewriting → List (List ℕ)
changes_before [] = []
changes_before (r ∷ before) = changes_before before ++ r.changes

-- Each wrote lines that may stand for all that was read back, and that had the digest of what was kept.
abbrev pub AreRewritings : (List (List ℕ) → List (List ℕ) → Type 0) → Kept → List Rewriting → Type 0
AreRewritings StandFor kept [] = ⊤
AreRewritings StandFor kept (r ∷ before) = AreRewritings StandFor kept before
    × HasDigestOf r.read (with_commands (kept_after kept before) r.changes)
    × StandFor (r.read.live ++ r.read.since) r.lines

-- It comes of what was kept and of these changes, with some first ones of them written anew or none.
pub record ComesOf (StandFor : List (List ℕ) → List (List ℕ) → Type 0) (kept : Kept) (changes : List (List ℕ))
    (now : Kept) : Type 0 where
  pub rewritings : List Rewriting
  pub are : AreRewritings StandFor kept rewritings
  pub more : List (List ℕ)
  pub changes_are : changes ≡ changes_before rewritings ++ more
  pub now_is : now ≡ with_commands (kept_after kept rewritings) more

-- The bytes are read back as what comes of what was kept and of a front of these changes, at least the first so many.
pub record IsFrontAnew (StandFor : List (List ℕ) → List (List ℕ) → Type 0) (kept : Kept) (changes : List (List ℕ))
    (safe : ℕ) (bytes : List ℕ) : Type 0 where
  pub many : ℕ
  pub least : safe ≤ many
  pub most : many ≤ length changes
  pub now : Kept
  pub comes : ComesOf StandFor kept (take many changes) now
  pub torn : List ℕ
  pub reads : Reads bytes now torn

-- A stop now leaves what comes of what was kept and of a front of the changes of these lines, with those of some first
-- ones that are synced, and a stop since the beginning has left what comes of a front of them.
pub record LeavesKept {S : Type 0} (StandFor : List (List ℕ) → List (List ℕ) → Type 0) (calls : store.Ghosts S)
    (begun : Begun) (synced lines : List (List ℕ)) (s : S) : Type 0 where
  pub stop : (left : List ℕ) → calls.may_leave s left
      → IsFrontAnew StandFor begun.kept (changes_of lines) (length (changes_of synced)) left
  pub later : begun.moment ≤ calls.moment s
  pub since : (left : List ℕ) → calls.left_since s begun.moment left
      → IsFrontAnew StandFor begun.kept (changes_of lines) 0 left

-- The journal stands, all of it synced, with what comes of what was kept and of the changes of these lines, and a stop
-- leaves that.
pub record HasKept {S : Type 0} (StandFor : List (List ℕ) → List (List ℕ) → Type 0) (calls : store.Ghosts S)
    (begun : Begun) (lines : List (List ℕ)) (journal : Journal S) : Type 0 where
  pub now : Kept
  pub comes : ComesOf StandFor begun.kept (changes_of lines) now
  pub stands : Stands calls.seen calls.may_leave journal now (length now.since)
  pub fronts : LeavesKept StandFor calls begun lines lines journal.store
