-- The fronts of a word while they are read.
use Rattle.std.specs.Prelude.{ℕ, List, [], ◌∷◌, ◌++◌, map, take, drop}
use Rattle.std.specs.Str.{chars, encode_utf8_all}
use Rattle.clip_extract.specs.Fronts.{fronts_of}

-- the fronts of a word that have its first bytes, up to `end`, and at most so many characters more
abbrev pub fronts_after : List ℕ → (end left : ℕ) → List (List ℕ)
fronts_after word end left = map (λ cs. take end word ++ encode_utf8_all cs)
    (fronts_of (take left (chars (drop end word))))

-- the last of the fronts, or where there are none another
abbrev pub last_of : (other : List ℕ) → List (List ℕ) → List ℕ
last_of other [] = other
last_of other (front ∷ fronts) = last_of front fronts
