-- A reader that hands out bytes once the changes are kept for which they ask.
use Rattle.std.specs.Prelude.{◌≡◌, ℕ, ◌≤◌, ◌<◌, List, [], ◌++◌, Bool, true, false, Option, None, Some, option_map}
use Rattle.std.specs.Io.KnownBytes.{Consumes, IsAtEnd}
use Rattle.clip_stream.specs.Lines.{lines_of, ended_lines, lines_read}
use Rattle.clip_journal.specs.declared.journal.Journal.{Journal}
use Rattle.clip_journal.specs.declared.journal_fault.JournalFault.{JournalFault}
use Rattle.clip_journal.specs.declared.journal_fault.JournalFault.TheVariants as fault
use Rattle.clip_journal.specs.declared.store.StoreFault.TheVariants as stored
use Rattle.clip_journal.specs.declared.store.Store as store
use Rattle.clip_ahead.specs.Ahead.{Begun, Appended, LeavesFronts}
use Rattle.clip_ahead.specs.Anew.{HasKept, LeavesKept}
use Rattle.clip_ahead.specs.Keeping.{Holds}
use Rattle.clip_ahead.specs.declared.keeper.Keeper.{Keeper}

-- what contracts see of such a reader
pub record Handing : Type 0 where
  pub left : Option (List ℕ)
  pub has_failed : Bool
  pub reads : ℕ
  pub met_end : Bool

-- what is left to hand out, where these bytes are held
abbrev pub put_back : List ℕ → Option (List ℕ) → Option (List ℕ)
put_back held left = option_map (λ rest. held ++ rest) left

-- what was handed out, and what is held, by whether the end was met and the journal has failed: where it has not, all
-- that was handed out is kept, and nothing is held
abbrev pub KeepsAhead : {S : Type 0} → store.Ghosts S → Begun → Option (List ℕ) → List ℕ → List ℕ → Keeper S → Bool
    → Option JournalFault → Type 0
KeepsAhead calls begun left handed held keeper true None =
    (held ≡ []) × IsAtEnd left × Appended calls begun (lines_of handed) (lines_of handed) keeper.journal
KeepsAhead calls begun left handed held keeper false None = (held ≡ []) × Holds calls begun handed handed keeper
KeepsAhead calls begun left handed held keeper true (Some why) = ⊥
KeepsAhead calls begun left handed held keeper false (Some why) = (at_end : Bool)
    × LeavesFronts calls begun (ended_lines handed) (lines_read at_end (handed ++ held)) keeper.journal.store

-- A reader that began so has handed out these bytes, and holds those that it could not keep.
pub record IsAhead {S : Type 0} (calls : store.Ghosts S) (begun : Begun) (left : Option (List ℕ)) (held : List ℕ)
    (keeper : Keeper S) (met_end : Bool) (failed : Option JournalFault) : Type 0 where
  pub handed : List ℕ
  pub given : Consumes begun.left (put_back held left) handed
  pub keeps : KeepsAhead calls begun left handed held keeper met_end failed
  pub faults : begun.faults ≤ calls.faults keeper.journal.store
  pub cause : failed ≡ Some (fault.Store stored.Failed) → begun.faults < calls.faults keeper.journal.store

-- All that was handed out is in the journal: what a stop leaves from now on comes of what was kept and of a front of
-- the changes of these lines, with all that were handed out.
pub record WasAhead {S : Type 0} (StandFor : List (List ℕ) → List (List ℕ) → Type 0) (calls : store.Ghosts S)
    (begun : Begun) (left : Option (List ℕ)) (held : List ℕ) (met_end : Bool) (failed : Option JournalFault)
    (journal : Journal S) : Type 0 where
  pub handed : List ℕ
  pub given : Consumes begun.left (put_back held left) handed
  pub well : failed ≡ None → (held ≡ []) × HasKept StandFor calls begun (lines_read met_end handed) journal
  pub ended : met_end ≡ true → (held ≡ []) × IsAtEnd left
  pub at_end : Bool
  pub fronts : LeavesKept StandFor calls begun (lines_read met_end handed) (lines_read at_end (handed ++ held))
      journal.store
  pub cause : failed ≡ Some (fault.Store stored.Failed) → begun.faults < calls.faults journal.store
