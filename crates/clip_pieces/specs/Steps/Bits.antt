-- Flags that lie in words of 64 bits.
use Rattle.std.specs.Prelude.{◌≡◌, ℕ, zero, suc, ◌+◌, ◌-◌, ◌*◌, ◌/◌, ◌%◌, ◌<◌, ◌≤◌, ◌==◌, nat_eq, Bool, false, List, []}
use Rattle.std.specs.Prelude.{◌∷◌, map, length, drop, replicate}
use Rattle.std.specs.Int.{bit_at}
use Rattle.clip_pieces.specs.Pieces.{joined}
use Rattle.clip_pieces.specs.declared.marks.TheConstants.{MOST_NUMBERS}

-- a bit of a word is set
abbrev pub is_set : ℕ → ℕ → Bool
is_set word bit = nat_eq (bit_at word bit) 1

-- so many bits of a word, from the lowest
unfoldable pub bits_of : ℕ → ℕ → List Bool
bits_of zero word = []
bits_of (suc count) word = (word % 2 == 1) ∷ bits_of count (word / 2)

-- the bits of all words
abbrev pub flags_of : List ℕ → List Bool
flags_of words = joined (map (bits_of 64) words)

-- the words have a bit for each number below the bound, no more than 32 bits can number, and none is set from the bound
-- on
abbrev pub HoldMarks : ℕ → List ℕ → Type 0
HoldMarks bound words = (bound ≤ 64 * length words) × (64 * length words ≤ MOST_NUMBERS)
    × (drop bound (flags_of words) ≡ replicate (64 * length words - bound) false)

-- the words have a bit for each of so many flags, the last word has one of them, and none is set behind the last flag
abbrev pub HoldFlags : ℕ → List ℕ → Type 0
HoldFlags len words = (len ≤ 64 * length words) × (64 * length words < len + 64)
    × (drop len (flags_of words) ≡ replicate (64 * length words - len) false)
