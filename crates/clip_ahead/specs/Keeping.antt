-- What a keeper holds: its journal, and the piece of a line.
use Rattle.std.specs.Prelude.{◌≡◌, ◌⊎◌, ℕ, ◌≤◌, List, ◌++◌, Bool, false}
use Rattle.clip_stream.specs.Lines.{ended_lines}
use Rattle.clip_stream.specs.Steps.Reading.{cut}
use Rattle.clip_journal.specs.declared.store.Store as store
use Rattle.clip_ahead.specs.Ahead.{Begun, Appended}
use Rattle.clip_ahead.specs.Changes.{changes_of}
use Rattle.clip_ahead.specs.Pieces.{last_piece}
use Rattle.clip_ahead.specs.declared.keeper.Keeper.{Keeper}

-- The changes of the lines that ended in the bytes are appended, those of the first bytes are synced, and the piece is
-- what stands behind the last line feed.
pub record Holds {S : Type 0} (calls : store.Ghosts S) (begun : Begun) (synced bytes : List ℕ) (keeper : Keeper S)
    : Type 0 where
  pub appended : Appended calls begun (ended_lines synced) (ended_lines bytes) keeper.journal
  pub piece : keeper.piece.items ≡ cut (last_piece bytes)

-- Time goes on, over some calls of a store: what a stop since one moment might have left by then it might have left
-- before, or a stop since any other might have left it by then.
pub record TimeGoesOn {S : Type 0} (calls : store.Ghosts S) (old new : S) : Type 0 where
  pub later : calls.moment old ≤ calls.moment new
  pub nothing_else : (t u : ℕ) (left : List ℕ) → t ≤ calls.moment old → u ≤ calls.moment old
      → calls.left_since new t left → calls.left_since old t left ⊎ calls.left_since new u left
  pub keeps : (t : ℕ) (left : List ℕ) → t ≤ calls.moment old → calls.left_since old t left
      → calls.left_since new t left

-- Of the bytes all but the rest were taken since these, and whether a change was among them.
pub record TakesOn {S : Type 0} (calls : store.Ghosts S) (begun : Begun) (before bytes rest : List ℕ) (asks : Bool)
    (keeper : Keeper S) : Type 0 where
  pub taken : List ℕ
  pub parts : bytes ≡ taken ++ rest
  pub holds : Holds calls begun before (before ++ taken) keeper
  pub unchanged : asks ≡ false → changes_of (ended_lines (before ++ taken)) ≡ changes_of (ended_lines before)

-- So it is whatever the run began with.
pub record Takes {S : Type 0} (calls : store.Ghosts S) (old now : Keeper S) (bytes rest : List ℕ) (asks : Bool) : Type 0
  where
    pub on : (begun : Begun) (before : List ℕ) → Holds calls begun before before old
        → TakesOn calls begun before bytes rest asks now
    pub faults : calls.faults old.journal.store ≤ calls.faults now.journal.store
    pub time : TimeGoesOn calls old.journal.store now.journal.store
