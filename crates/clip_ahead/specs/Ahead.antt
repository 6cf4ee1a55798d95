-- Changes that are kept ahead: in the journal, and synced, before the bytes that ask for them are handed out.
use Rattle.std.specs.Prelude.{ℕ, ◌≤◌, List, [], length, Option, None}
use Rattle.clip_journal.specs.Kept.{Kept}
use Rattle.clip_journal.specs.Stands.{IsFront, Stands}
use Rattle.clip_journal.specs.declared.journal.Journal.{Journal}
use Rattle.clip_journal.specs.declared.store.Store as store
use Rattle.clip_ahead.specs.Changes.{with_changes}

-- What a run begins with: what its journal keeps, the moment of its store and how often that has failed, and the bytes
-- that its reader has left, where it tells them.
pub record Begun : Type 0 where
  pub kept : Kept
  pub moment : ℕ
  pub faults : ℕ
  pub left : Option (List ℕ)

-- of which nothing is known
abbrev pub no_beginning : Begun
no_beginning =
    record { kept = record { changes = 0; live = []; since = [] }; moment = 0; faults = 0; left = None }

-- how many commands a journal has synced that has synced these lines' changes
abbrev pub synced_with : Begun → List (List ℕ) → ℕ
synced_with begun lines = length (with_changes begun.kept lines).since

-- The journal stands with the changes of these lines behind what it kept, of which the changes of some first ones are
-- synced, and a stop since the beginning has left a front of them.
pub record Appended {S : Type 0} (calls : store.Ghosts S) (begun : Begun) (synced lines : List (List ℕ))
    (journal : Journal S) : Type 0 where
  pub stands : Stands calls.seen calls.may_leave journal (with_changes begun.kept lines) (synced_with begun synced)
  pub later : begun.moment ≤ calls.moment journal.store
  pub since : (left : List ℕ) → calls.left_since journal.store begun.moment left
      → IsFront (with_changes begun.kept lines) (length begun.kept.since) left

-- A stop now leaves what was kept and a front of the changes of these lines, with those of some first ones that are
-- synced, and a stop since the beginning has left a front of them.
pub record LeavesFronts {S : Type 0} (calls : store.Ghosts S) (begun : Begun) (synced lines : List (List ℕ)) (s : S)
    : Type 0 where
  pub stop : (left : List ℕ) → calls.may_leave s left
      → IsFront (with_changes begun.kept lines) (synced_with begun synced) left
  pub later : begun.moment ≤ calls.moment s
  pub since : (left : List ℕ) → calls.left_since s begun.moment left
      → IsFront (with_changes begun.kept lines) (length begun.kept.since) left
