-- The stages of a run whose journal is written anew.
use Rattle.std.specs.Prelude.{◌≡◌, ◌⊎◌, ℕ, ◌≤◌, ◌<◌, List, [], ◌++◌, Bool, false, Option, None, Some}
use Rattle.std.specs.Io.KnownBytes.{Consumes}
use Rattle.clip_stream.specs.Lines.{ended_lines, lines_read}
use Rattle.clip_journal.specs.declared.journal_fault.JournalFault.{JournalFault}
use Rattle.clip_journal.specs.declared.journal_fault.JournalFault.TheVariants as fault
use Rattle.clip_journal.specs.declared.store.StoreFault.TheVariants as stored
use Rattle.clip_journal.specs.declared.store.Store as store
use Rattle.clip_ahead.specs.Ahead.{Begun}
use Rattle.clip_ahead.specs.Anew.{Rewriting, kept_after, changes_before, AreRewritings, IsFrontAnew, LeavesKept}
use Rattle.clip_ahead.specs.Changes.{changes_of}
use Rattle.clip_ahead.specs.Handing.{put_back, IsAhead}
use Rattle.clip_ahead.specs.Pieces.{last_piece}
use Rattle.clip_ahead.specs.declared.keeper.Keeper.{Keeper}

-- A stage of a run begins where the run did, or where its journal was written anew last. These bytes were handed out
-- before it, and end with a line.
pub record IsStage {S : Type 0} (StandFor : List (List ℕ) → List (List ℕ) → Type 0) (calls : store.Ghosts S)
    (begun stage : Begun) (past : List ℕ) (s : S) : Type 0 where
  pub rewritings : List Rewriting
  pub are : AreRewritings StandFor begun.kept rewritings
  pub kept : stage.kept ≡ kept_after begun.kept rewritings
  pub changes : changes_before rewritings ≡ changes_of (ended_lines past)
  pub whole : last_piece past ≡ []
  pub given : Consumes begun.left stage.left past
  pub later : begun.moment ≤ stage.moment
  pub faults : begun.faults ≤ stage.faults
  pub since : (left : List ℕ) → calls.left_since s begun.moment left → calls.left_since s stage.moment left
      ⊎ IsFrontAnew StandFor begun.kept (changes_of (ended_lines past)) 0 left

-- These bytes were handed out, and those are held that could not be kept.
pub record FailedAhead {S : Type 0} (StandFor : List (List ℕ) → List (List ℕ) → Type 0) (calls : store.Ghosts S)
    (begun : Begun) (left : Option (List ℕ)) (held : List ℕ) (s : S) (why : JournalFault) : Type 0 where
  pub handed : List ℕ
  pub given : Consumes begun.left (put_back held left) handed
  pub at_end : Bool
  pub fronts : LeavesKept StandFor calls begun (ended_lines handed) (lines_read at_end (handed ++ held)) s
  pub cause : why ≡ fault.Store stored.Failed → begun.faults < calls.faults s

-- A reader that began so is ahead in a stage of its run, or its journal has failed.
abbrev pub IsAheadAnew : {S : Type 0} → (List (List ℕ) → List (List ℕ) → Type 0) → store.Ghosts S → Begun
    → Option (List ℕ) → List ℕ → Keeper S → Bool → Option JournalFault → Type 0
IsAheadAnew StandFor calls begun left held keeper met_end None = (stage : Begun) × (past : List ℕ)
    × IsStage StandFor calls begun stage past keeper.journal.store × IsAhead calls stage left held keeper met_end None
IsAheadAnew StandFor calls begun left held keeper met_end (Some why) =
    (met_end ≡ false) × FailedAhead StandFor calls begun left held keeper.journal.store why
