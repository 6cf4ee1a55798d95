-- Whose fault it was that a run ended early.
use Rattle.std.specs.Prelude.{◌≡◌, ◌⊎◌, ◌≤◌, ⊤, ℕ, Bool, true, false, Option, None, Some, Result, Ok, Err, OnOk}
use Rattle.clip_stream.specs.declared.limits.TheConstants.{MOST_READS}
use Rattle.clip_stream.specs.declared.fault.RunFault.{RunFault}
use Rattle.clip_stream.specs.declared.fault.RunFault.TheVariants as run
use Rattle.clip_journal.specs.declared.journal_fault.JournalFault.{JournalFault}
use Rattle.clip_front.specs.Devices.{Devices}
use Rattle.clip_kept.specs.declared.fault.KeptFault.{KeptFault}
use Rattle.clip_kept.specs.declared.fault.KeptFault.TheVariants as kept

-- a read that failed was the journal's fault where that has one
abbrev pub whose_read : Option JournalFault → KeptFault
whose_read None = kept.Read
whose_read (Some why) = kept.Journal why

abbrev pub whose : {T : Type 0} → Result T RunFault → Option JournalFault → Result T KeptFault
whose (Ok ended) failed = Ok ended
whose (Err run.NoMemory) failed = Err kept.NoMemory
whose (Err run.Write) failed = Err kept.Write
whose (Err run.Read) failed = Err (whose_read failed)

-- It ended where it asked for more bytes: the read failed, or the journal did not take a change among them.
abbrev pub FailsToRead : {T : Type 0} → Result T KeptFault → Type 0
FailsToRead (Ok ended) = ⊥
FailsToRead (Err kept.NoMemory) = ⊥
FailsToRead (Err kept.Read) = ⊤
FailsToRead (Err kept.Write) = ⊥
FailsToRead (Err (kept.Journal why)) = ⊤

-- What a run answered is so of the devices that it leaves, of how often its reader was asked and whether that gave the
-- end, and of whether its journal failed.
pub record IsHonestKept {T : Type 0} (result : Result T KeptFault) (failed : Option JournalFault) (devices : Devices)
    (reads : ℕ) (met_end : Bool) : Type 0 where
  -- where it ended well, what was written was flushed, the end was met, and nothing has failed
  pub flushed : OnOk result (devices.is_flushed ≡ true)
  pub ended : OnOk result (met_end ≡ true)
  pub ok : OnOk result ((devices.read_failed ≡ false) × (devices.write_failed ≡ false) × (failed ≡ None))
  -- `Read` has its reason: a read failed, or the most reads were made and none of them met the end
  pub read : result ≡ Err kept.Read → (devices.read_failed ≡ true) ⊎ ((reads ≡ MOST_READS) × (met_end ≡ false))
  -- `Write` has its reason: a write or a flush failed, or a write took nothing
  pub write : result ≡ Err kept.Write → devices.write_failed ≡ true
  -- `Journal` has its reason: the journal has failed so
  pub journal : (why : JournalFault) → result ≡ Err (kept.Journal why) → failed ≡ Some why
  -- whatever it answered, no more reads were made than these
  pub most : devices.reads ≤ MOST_READS
