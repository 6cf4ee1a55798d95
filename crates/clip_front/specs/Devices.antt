-- What a run asks of its reader and its writer, and what its answer says of them.
use Rattle.std.specs.Prelude.{◌≡◌, ◌≤◌, ◌⊎◌, ℕ, List, Bool, true, false, Option, Result, Err, OnOk}
use Rattle.clip_stream.specs.declared.device.Source as source
use Rattle.clip_stream.specs.declared.device.Sink as sink
use Rattle.clip_stream.specs.declared.limits.TheConstants.{MOST_READS}
use Rattle.clip_stream.specs.declared.fault.RunFault.{RunFault}
use Rattle.clip_stream.specs.declared.fault.RunFault.TheVariants as fault

-- what a reader and a writer tell
pub record Devices : Type 0 where
  -- the bytes that are left to read, where the reader tells them
  pub left : Option (List ℕ)
  -- whether a read has failed
  pub read_failed : Bool
  -- how many reads there were
  pub reads : ℕ
  -- whether a read met the end
  pub met_end : Bool
  -- the bytes that the writer has taken, where it tells them
  pub taken : Option (List ℕ)
  -- whether they were flushed
  pub is_flushed : Bool
  -- whether a write or a flush has failed, or a write took nothing
  pub write_failed : Bool

-- what these two tell
abbrev pub devices_at : {R W : Type 0} → source.Ghosts R → sink.Ghosts W → R → W → Devices
devices_at reads writes reader writer = record {
  left = reads.left reader;
  read_failed = reads.has_failed reader;
  reads = reads.reads reader;
  met_end = reads.met_end reader;
  taken = writes.taken writer;
  is_flushed = writes.is_flushed writer;
  write_failed = writes.has_failed writer;
}

-- A run may begin with these.
pub record AreFresh (devices : Devices) : Type 0 where
  -- nothing was read yet
  pub unread : devices.reads ≡ 0
  -- the end was not met
  pub unended : devices.met_end ≡ false
  -- no read has failed
  pub reader_well : devices.read_failed ≡ false
  -- no write and no flush has failed
  pub writer_well : devices.write_failed ≡ false

-- What a run answered is so of the devices that it leaves.
pub record IsHonest {T : Type 0} (result : Result T RunFault) (devices : Devices) : Type 0 where
  -- where it ended well, what was written was flushed
  pub flushed : OnOk result (devices.is_flushed ≡ true)
  -- the reader has met its end
  pub ended : OnOk result (devices.met_end ≡ true)
  -- and no read, no write and no flush has failed
  pub ok : OnOk result ((devices.read_failed ≡ false) × (devices.write_failed ≡ false))
  -- `Read` has its reason: a read failed, or the most reads were made and none of them met the end
  pub read : result ≡ Err fault.Read
      → (devices.read_failed ≡ true) ⊎ ((devices.reads ≡ MOST_READS) × (devices.met_end ≡ false))
  -- `Write` has its reason: a write or a flush failed, or a write took nothing
  pub write : result ≡ Err fault.Write → devices.write_failed ≡ true
  -- whatever it answered, no more reads were made than these
  pub reads : devices.reads ≤ MOST_READS
