-- Commands, entries of the history and answers, as contracts see them.
use Rattle.std.specs.Prelude.{ℕ, map, string_bytes}
use Rattle.std.specs.Arc.{arc_value}
use Rattle.std.specs.declared.sync.Arc.{Arc}
use Rattle.std.specs.declared.alloc.Global.{Global}
use Rattle.clip_model.specs.History as model
use Rattle.clip_standing.specs.declared.command.Command.{Command}
use Rattle.clip_standing.specs.declared.command.Command.TheVariants as command
use Rattle.clip_standing.specs.declared.command.HistoryEntry.{HistoryEntry}
use Rattle.clip_standing.specs.declared.command.Applied.{Applied}
use Rattle.clip_standing.specs.declared.command.Applied.TheVariants as applied

-- a command, with its standing queries as values and its ids as bytes
abbrev pub command_of : Command → model.Command
command_of (command.Register standings) = model.Register (map arc_value standings.items)
command_of (command.Delete ids) = model.Delete (map string_bytes ids.items)
command_of command.Clear = model.Clear

-- an entry of the history, with its command as a value
abbrev pub entry_of : HistoryEntry → model.HistoryEntry
entry_of e = record { caller = e.caller; number = e.number; command = command_of e.command }

-- an entry that is shared, as a value
abbrev pub shared_entry : Arc HistoryEntry Global → model.HistoryEntry
shared_entry e = entry_of (arc_value e)

-- the answer to a command that counts n
abbrev pub answer_of : model.Command → ℕ → Applied
answer_of (model.Register standings) n = applied.Registered n
answer_of (model.Delete ids) n = applied.Deleted n
answer_of model.Clear n = applied.Cleared n
