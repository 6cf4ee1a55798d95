-- Where a run goes on from.
use Rattle.std.specs.Prelude.{ℕ, List, ◌++◌, length}
use Rattle.clip_stream.specs.declared.device.Source as source
use Rattle.clip_journal.specs.Kept.{Reads}
use Rattle.clip_journal.specs.Contents.{kept_of, torn_of}
use Rattle.clip_journal.specs.Stands.{Stands}
use Rattle.clip_journal.specs.declared.contents.Contents.{Contents}
use Rattle.clip_journal.specs.declared.store.Store as store
use Rattle.clip_ahead.specs.Ahead.{Begun}
use Rattle.clip_kept.specs.declared.opened.Opened.{Opened}

-- The bytes are read back so, and the journal stands there with all of it synced.
pub record IsOpened {S : Type 0} (seen : S → List ℕ) (may_leave : S → List ℕ → Type 0) (bytes : List ℕ)
    (opened : Opened S) : Type 0 where
  pub reads : Reads bytes (kept_of opened.found) (torn_of opened.found)
  pub stands : Stands seen may_leave opened.journal (kept_of opened.found) (length (kept_of opened.found).since)

-- all that was kept, in order: the queries that were live, each as the line that registers it, and the changes since
abbrev pub kept_lines : Contents → List (List ℕ)
kept_lines found = (kept_of found).live ++ (kept_of found).since

-- what a run begins with that goes on from it
abbrev pub begun_with : {R S : Type 0} → source.Ghosts R → store.Ghosts S → R → Opened S → Begun
begun_with reads calls reader opened = record {
  kept = kept_of opened.found;
  moment = calls.moment opened.journal.store;
  faults = calls.faults opened.journal.store;
  left = reads.left reader;
}
