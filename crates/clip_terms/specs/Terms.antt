-- Terms: keys that some queries ask for, in order and each once, by their numbers.
use Rattle.std.specs.Prelude.{ℕ, suc, List, [], ◌∷◌, Option, Some, None, unwrap_or, option_map, slice_get}
use Rattle.std.specs.Prelude.{if◌then◌else◌}
use Rattle.clip_extract.specs.Keys.{KeyValue, Any, is_same}

-- the term of a number, from 0; past the last one the key that every article has
abbrev pub term_at : List KeyValue → ℕ → KeyValue
term_at terms n = unwrap_or (slice_get terms n) Any

-- the number of a key among the terms: where it is first
abbrev pub number_of : List KeyValue → KeyValue → Option ℕ
number_of [] key = None
number_of (term ∷ terms) key = if is_same key term then Some 0 else option_map suc (number_of terms key)
