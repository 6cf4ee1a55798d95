-- Lines that ask for changes.
use Rattle.std.specs.Prelude.{ℕ, List, ◌++◌, Bool, true, false, filter}
use Rattle.clip_journal.specs.Kept.{Kept}
use Rattle.clip_protocol.specs.Steps.Outline.{Outline, outline, blank, refused, registers, deletes, clears, purges}
use Rattle.clip_protocol.specs.Steps.Outline.{counts, shows, matches}

abbrev pub is_change : Outline → Bool
is_change blank = false
is_change (refused reason) = false
is_change (registers listings) = true
is_change (deletes ids) = true
is_change clears = true
is_change purges = false
is_change counts = false
is_change (shows id) = false
is_change (matches articles) = false

-- the line asks to register queries, to delete some, or to delete all
abbrev pub asks_change : List ℕ → Bool
asks_change line = is_change (outline line)

-- those of the lines that do, in order
abbrev pub changes_of : List (List ℕ) → List (List ℕ)
changes_of lines = filter asks_change lines

-- what is kept, with the changes that these lines ask for behind it
abbrev pub with_changes : Kept → List (List ℕ) → Kept
with_changes kept lines = record kept { since = kept.since ++ changes_of lines }
