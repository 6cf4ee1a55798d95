-- The places that the words of a field get among the keys.
use Rattle.std.specs.Prelude.{◌≡◌, ℕ, ◌-◌, ◌<◌, List, length, Option, Some, None, slice_get, slice_index, All}
use Rattle.clip_extract.specs.Keys.{KeyValue, Word}
use Rattle.clip_terms.specs.Terms.{term_at}

-- The postings are of words, as many as these, each at its position.
pub record AreOfWords (postings : List (List ℕ × ℕ)) (count : ℕ) : Type 0 where
  pub words : List (List ℕ)
  pub long : length words ≡ count
  pub each : All (λ p. slice_get words p.1 ≡ Some p.0) postings

-- at the posting's position is the place of its word's key
abbrev pub IsPlaced : (field : List ℕ) → List KeyValue → (places : List ℕ) → List ℕ × ℕ → Type 0
IsPlaced field keys places p = term_at keys (slice_index places p.1) ≡ Word field p.0

-- the last key is that of the word, if there is one
abbrev pub EndsWith : (field : List ℕ) → Option (List ℕ) → List KeyValue → Type 0
EndsWith field None keys = Unit {0}
EndsWith field (Some word) keys = (0 < length keys) × (term_at keys (length keys - 1) ≡ Word field word)
