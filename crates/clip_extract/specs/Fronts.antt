-- The fronts of words, by which prefixes are found.
use Rattle.std.specs.Prelude.{ℕ, List, [], ◌∷◌, map, take}
use Rattle.std.specs.Str.{chars, encode_utf8_all}
use Rattle.clip_extract.specs.declared.key.TheConstants.{MOST_FRONT_CHARACTERS}

-- the first characters of a text, at most as many as a key has
unfoldable pub key_front : List ℕ → List ℕ
key_front text = encode_utf8_all (take MOST_FRONT_CHARACTERS (chars text))

-- the prefixes of a list, of one element and more
abbrev pub fronts_of : List ℕ → List (List ℕ)
fronts_of [] = []
fronts_of (c ∷ cs) = (c ∷ []) ∷ map (λ front. c ∷ front) (fronts_of cs)

-- the first one to `MOST_FRONT_CHARACTERS` characters of a word
unfoldable pub fronts : List ℕ → List (List ℕ)
fronts word = map encode_utf8_all (fronts_of (take MOST_FRONT_CHARACTERS (chars word)))
