-- Flags, one for each word of a field, that are raised where leaves name the word.
use Rattle.std.specs.Prelude.{◌≡◌, ℕ, ◌<◌, Bool, false, cond, ◌||◌, List, map, length, drop, get_or, Option, Some, None}
use Rattle.std.specs.Borrow.{Bor}
use Rattle.std.specs.List.{starts_with}
use Rattle.std.specs.Str.{bytes_eq}
use Rattle.memchr.specs.Find.{is_byte, places}
use Rattle.clip_meaning.specs.Hits.{HitValue, is_within}

-- the flag is up
abbrev pub is_up : ℕ → Bool
is_up = is_byte 1

-- a flag is up afterwards where it was before, and where its position passes the test
abbrev pub AreRaised : (old new : List ℕ) → (ℕ → Bool) → Type 0
AreRaised old new t = (k : ℕ) → k < length old → is_up (get_or new k 0) ≡ (is_up (get_or old k 0) || t k)

-- the hit at a position of the field of this name
abbrev pub hit_at : (name : List ℕ) → ℕ → HitValue
hit_at name position = (name, position)

-- a hit in the field of this name for each flag that is up
abbrev pub raised : (name : List ℕ) → List ℕ → List HitValue
raised name flags = map (hit_at name) (places is_up flags)

-- the position is one of `count` from the start on, if there is one
abbrev pub is_within_run : (start : Option ℕ) → (count position : ℕ) → Bool
is_within_run None count position = false
is_within_run (Some start) count position = is_within start count position

-- by what calls answer, where a run starts that an item gives
abbrev pub GivesStarts : {X : Type 0} → (Bor X → Option ℕ → Type 0) → (X → Option ℕ) → Type 0
GivesStarts {X} answers start = (x : Bor X) (found : Option ℕ) → answers x found → found ≡ start x.now

-- where a phrase starts that begins at a position of the words, if it does
abbrev pub start_at : (words phrase : List (List ℕ)) → (position : ℕ) → Option ℕ
start_at words phrase position = cond (starts_with bytes_eq (drop position words) phrase) (Some position) None
