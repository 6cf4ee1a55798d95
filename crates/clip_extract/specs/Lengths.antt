-- Lengths of short texts.
use Rattle.std.specs.Prelude.{◌≡◌, ◌≤◌, ℕ, List, length}

-- where the short length is at most eight, it is the text's length
abbrev pub IsShortLength : (text : List ℕ) → (short : ℕ) → Type 0
IsShortLength text short = short ≤ 8 → length text ≡ short
