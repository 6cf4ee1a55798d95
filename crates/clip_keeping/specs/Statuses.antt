-- Why the program does not do what it was asked, and with which status it ends.
use Rattle.std.specs.Prelude.{⊤, ℕ, Result, Ok, Err}
use Rattle.std.specs.declared.io.ErrorKind.{ErrorKind}
use Rattle.std.specs.declared.io.ErrorKind.TheVariants as kind
use Rattle.clip_journal.specs.declared.fault.ReadFault.{ReadFault}
use Rattle.clip_journal.specs.declared.fault.ReadFault.TheVariants as read
use Rattle.clip_journal.specs.declared.journal_fault.JournalFault.{JournalFault}
use Rattle.clip_journal.specs.declared.journal_fault.JournalFault.TheVariants as journal
use Rattle.clip_journal.specs.declared.journal_fault.OpenFault.{OpenFault}
use Rattle.clip_journal.specs.declared.journal_fault.OpenFault.TheVariants as opening
use Rattle.clip_journal.specs.declared.store.StoreFault.{StoreFault}
use Rattle.clip_journal.specs.declared.store.StoreFault.TheVariants as store
use Rattle.clip_kept.specs.declared.fault.KeptFault.{KeptFault}
use Rattle.clip_kept.specs.declared.fault.KeptFault.TheVariants as kept
use Rattle.clip_keeping.specs.declared.fault.Fault.{Fault}
use Rattle.clip_keeping.specs.declared.fault.Fault.TheVariants.{NoMemory, Broken, Other, Unopened, Unwritten}
use Rattle.clip_keeping.specs.declared.fault.Fault.TheVariants.{Unread, Locked, Unheard}

-- a store that is opened or begun
abbrev pub fault_of_store : StoreFault → Fault
fault_of_store store.Failed = Unopened
fault_of_store store.NoMemory = NoMemory
fault_of_store store.Unwritten = Unopened

abbrev pub fault_of_bytes : ReadFault → Fault
fault_of_bytes (read.Broken place) = Broken place
fault_of_bytes read.NoMemory = NoMemory

abbrev pub fault_at_opening : OpenFault → Fault
fault_at_opening (opening.Store why) = fault_of_store why
fault_at_opening (opening.Read why) = fault_of_bytes why

-- a store that takes more
abbrev pub fault_at_change : StoreFault → Fault
fault_at_change store.Failed = Unwritten
fault_at_change store.NoMemory = NoMemory
fault_at_change store.Unwritten = Unwritten

abbrev pub fault_in_journal : JournalFault → Fault
fault_in_journal journal.Ended = Unwritten
fault_in_journal journal.Full = Unwritten
fault_in_journal (journal.Store why) = fault_at_change why
fault_in_journal journal.NoMemory = NoMemory

abbrev pub fault_in_run : KeptFault → Fault
fault_in_run kept.NoMemory = NoMemory
fault_in_run kept.Read = Unread
fault_in_run kept.Write = Unheard
fault_in_run (kept.Journal why) = fault_in_journal why

-- where it ended well nothing more is told
abbrev pub outcome_of : {T : Type 0} → Result T KeptFault → Result ⊤ Fault
outcome_of (Ok ended) = Ok tt
outcome_of (Err why) = Err (fault_in_run why)

-- of a file: it is locked, or there is no memory, or it can't be used
abbrev pub fault_of_file : ErrorKind → Fault
fault_of_file kind.WouldBlock = Locked
fault_of_file kind.OutOfMemory = NoMemory
fault_of_file _ = Unopened

-- 1: the engine's own fault; 3: the journal is not as it was written; 4: the journal or the input can't be used; 5:
-- another process has it; 6: nobody reads the replies
abbrev pub status_of : Fault → ℕ
status_of NoMemory = 1
status_of (Broken place) = 3
status_of Other = 3
status_of Unopened = 4
status_of Unwritten = 4
status_of Unread = 4
status_of Locked = 5
status_of Unheard = 6

-- 0 where it ended well
abbrev pub ending_of : {T : Type 0} → Result T Fault → ℕ
ending_of (Ok done) = 0
ending_of (Err fault) = status_of fault
