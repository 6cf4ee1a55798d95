-- The lines of the bytes, and those of them that were read.
use Rattle.std.specs.Prelude.{◌≡◌, ℕ, ◌==◌, List, [], ◌∷◌, ◌++◌, Bool, true, Option, Some, None, if◌then◌else◌}
use Rattle.std.specs.Io.KnownBytes.{Consumes}

-- ---- lines

-- the lines with the byte put before the first of them
abbrev pub onto_first : ℕ → List (List ℕ) → List (List ℕ)
onto_first b [] = (b ∷ []) ∷ []
onto_first b (line ∷ lines) = (b ∷ line) ∷ lines

-- A line ends with a line feed. The last may lack it, and is a line where it has a byte.
abbrev pub lines_of : List ℕ → List (List ℕ)
lines_of [] = []
lines_of (b ∷ bytes) = if b == 10 then [] ∷ lines_of bytes else onto_first b (lines_of bytes)

-- ---- lines that were read

-- the lines with the byte put before the first of them, where there is one
abbrev pub onto_ended : ℕ → List (List ℕ) → List (List ℕ)
onto_ended b [] = []
onto_ended b (line ∷ lines) = (b ∷ line) ∷ lines

-- the lines that end with a line feed
abbrev pub ended_lines : List ℕ → List (List ℕ)
ended_lines [] = []
ended_lines (b ∷ bytes) = if b == 10 then [] ∷ ended_lines bytes else onto_ended b (ended_lines bytes)

-- The lines that were read, where a reader gave these bytes: all that end with a line feed, and the last that lacks it
-- only where the end was met. The piece of a line whose end was not read is no line.
abbrev pub lines_read : Bool → List ℕ → List (List ℕ)
lines_read met_end bytes = if met_end then lines_of bytes else ended_lines bytes

-- the lines that were read of an input are its first lines
abbrev pub LinesReadComeFirst : Type 0
LinesReadComeFirst = (met_end : Bool) (bytes rest : List ℕ) → (met_end ≡ true → rest ≡ [])
    → (later : List (List ℕ)) × (lines_of (bytes ++ rest) ≡ lines_read met_end bytes ++ later)

-- ---- by what a reader reports

-- The property holds of the input: of the bytes that were left, or of some bytes where a reader doesn't report them.
abbrev pub OfInput : Option (List ℕ) → (List ℕ → Type 0) → Type 0
OfInput None P = (input : List ℕ) × P input
OfInput (Some input) P = P input

-- The property holds of the lines that were read, where this was left before and after: of those of the bytes that were
-- given, or of some bytes where a reader doesn't report them.
abbrev pub OfLinesRead : Option (List ℕ) → Option (List ℕ) → Bool → (List (List ℕ) → Type 0) → Type 0
OfLinesRead old new met_end P = (bytes : List ℕ) × Consumes old new bytes × P (lines_read met_end bytes)
