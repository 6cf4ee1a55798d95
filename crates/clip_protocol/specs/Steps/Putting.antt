-- What it means that a text is put into a flow piece by piece.
use Rattle.std.specs.Prelude.{◌≡◌, ◌≢◌, ℕ, List, ◌++◌, Bool, true, Option, Result, Ok, Err}
use Rattle.std.specs.declared.alloc.Global.{Global}
use Rattle.std.specs.declared.vec.Vec.{Vec}
use Rattle.clip_stream.specs.Device.{AppendsFront, HandsOver}
use Rattle.clip_stream.specs.declared.fault.RunFault.{RunFault}
use Rattle.clip_stream.specs.declared.fault.RunFault.TheVariants.{Read, Write}

-- how far a text has come: what the writer took, whether a call of it has failed, and what waits for it
pub record Stand : Type 0 where
  pub taken : Option (List ℕ)
  pub failed : Bool
  pub waiting : List ℕ

-- by what is told of a writer
abbrev pub stand : {W : Type 0} → (W → Option (List ℕ)) → (W → Bool) → W → List ℕ → Stand
stand taken failed writer waiting = record { taken = taken writer; failed = failed writer; waiting = waiting }

-- these bytes were put behind what waited, and the writer has not failed meanwhile
pub record Puts (old new : Stand) (bytes : List ℕ) : Type 0 where
  pub handed : HandsOver old.taken (old.waiting ++ bytes) new.taken new.waiting
  pub well : new.failed ≡ old.failed

-- this fault came while the bytes were put: of what waited and of them the writer took a front
pub record PutsFront (fault : RunFault) (old new : Stand) (bytes : List ℕ) : Type 0 where
  pub kind : fault ≢ Read
  pub failed : fault ≡ Write → new.failed ≡ true
  pub front : AppendsFront old.taken new.taken (old.waiting ++ bytes)

-- where the writer stands, and a text that waits behind what waited
abbrev pub with_text : Stand → List ℕ → Stand
with_text s text = record { taken = s.taken; failed = s.failed; waiting = s.waiting ++ text }

-- the call put these bytes and gave back what of them is left to put, or it put a front of them
abbrev pub PutsText : Result (Vec ℕ Global) RunFault → Stand → Stand → List ℕ → Type 0
PutsText (Ok left) old new bytes = Puts old (with_text new left.items) bytes
PutsText (Err fault) old new bytes = PutsFront fault old new bytes
