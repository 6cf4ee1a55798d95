-- What the calls of a reader and a writer leave.
use Rattle.std.specs.Prelude.{◌≡◌, ℕ, ◌==◌, ◌&&◌, not, List, ◌++◌, length, take, Bool, true, false, Result, Ok, Err}
use Rattle.std.specs.Prelude.{Option}
use Rattle.std.specs.Io.KnownBytes.{Appends}

-- a write failed: it answered an error, or it took nothing of some bytes
abbrev pub write_failed : {E : Type 0} → Result ℕ E → List ℕ → Bool
write_failed (Ok n) bytes = (n == 0) && not (length bytes == 0)
write_failed (Err e) bytes = true

-- a read met the end: it returned 0, though the buffer had a byte or more
abbrev pub meets_end : {E : Type 0} → Result ℕ E → List ℕ → Bool
meets_end (Ok n) buffer = (n == 0) && not (length buffer == 0)
meets_end (Err e) buffer = false

-- known bytes grew by a prefix of these
abbrev pub AppendsFront : Option (List ℕ) → Option (List ℕ) → List ℕ → Type 0
AppendsFront old new bytes = (n : ℕ) × Appends old new (take n bytes)

-- the writer took a prefix of the bytes that were gathered, and the rest is gathered still
pub record HandsOver (old : Option (List ℕ)) (gathered : List ℕ) (new : Option (List ℕ)) (left : List ℕ) : Type 0 where
  pub moved : List ℕ
  pub parts : gathered ≡ moved ++ left
  pub taken : Appends old new moved
