-- A history as it is lent.
use Rattle.std.specs.Prelude.{List, [], map, Option, Some, None}
use Rattle.std.specs.Borrow.{Bor}
use Rattle.clip_model.specs.History.{History}
use Rattle.clip_standing.specs.Command.{entry_of}
use Rattle.clip_standing.specs.declared.command.HistoryEntry.{HistoryEntry}

-- the entries as values: none before the first command
abbrev pub lent_history : Option (Bor (List HistoryEntry)) → History
lent_history None = []
lent_history (Some entries) = map entry_of entries.now
