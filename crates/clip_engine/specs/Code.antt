-- The numbers that calls answer.
use Rattle.std.specs.Prelude.{ℕ}
use Rattle.clip_protocol.specs.declared.refusal.Refusal.TheVariants as reason
use Rattle.clip_protocol.specs.declared.refusal.Unread.{Unread}
use Rattle.clip_protocol.specs.declared.refusal.Unread.TheVariants as unread
use Rattle.clip_engine.specs.declared.code.TheConstants.{LIMIT, QUERY, LISTENER, FULL, NO_MEMORY, FEED, LINES}
use Rattle.clip_engine.specs.declared.engine.LineFault.{LineFault}
use Rattle.clip_engine.specs.declared.engine.LineFault.TheVariants as line

-- the number of a refusal; those of lines stand in replies, and no call answers them
abbrev pub number_of : Unread → ℕ
number_of (unread.Refused reason.Query) = QUERY
number_of (unread.Refused reason.Listener) = LISTENER
number_of (unread.Refused reason.Full) = FULL
number_of (unread.Refused reason.Limit) = LIMIT
number_of (unread.Refused reason.Long) = LIMIT
number_of (unread.Refused reason.Json) = LIMIT
number_of (unread.Refused reason.Shape) = LIMIT
number_of unread.NoMemory = NO_MEMORY

-- the number of a line's fault
abbrev pub number_of_line : LineFault → ℕ
number_of_line line.Feed = FEED
number_of_line line.TooMany = LINES
number_of_line line.NoMemory = NO_MEMORY
