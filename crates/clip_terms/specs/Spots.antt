-- What the numbers of terms say of the positions of a field's words.
use Rattle.std.specs.Prelude.{ℕ, Bool, false, ◌&&◌, List, [], length, drop, get_or, refl}
use Rattle.std.specs.Coded.{Coded, code_by, coded×, coded_list}
use Rattle.std.specs.List.{list_any, starts_with}
use Rattle.std.specs.Str.{bytes_eq}
use Rattle.clip_grammar.specs.TreeCode.{bytes_code}
use Rattle.clip_meaning.specs.Hits.{is_within}
use Rattle.clip_meaning.specs.Index.{numbered}
use Rattle.clip_extract.specs.Keys.{KeyValue, Any, Word, Front, is_same}
use Rattle.clip_extract.specs.Covering.{field_keys}
use Rattle.clip_terms.specs.Reading.{key_code}

-- a field's name and its words
abbrev pub FieldValue : Type 0
FieldValue = List ℕ × List (List ℕ)

-- the terms, and the field whose positions are asked for by their numbers
pub record SpotsValue : Type 0 where
  pub terms : List KeyValue
  pub field : FieldValue

-- a field with the terms
abbrev pub spots_among : List KeyValue → FieldValue → SpotsValue
spots_among terms field = record { terms = terms; field = field }

-- by this code a type whose value holds terms and a field has a model
abbrev pub spots_code : Coded SpotsValue
spots_code =
    code_by (List KeyValue × FieldValue) (coded× (coded_list key_code) (coded× bytes_code (coded_list bytes_code)))
    (λ s. (s.terms, s.field)) (λ p. record { terms = p.0; field = p.1 }) (λ _. refl)

-- the key is of a word in a field of this name
abbrev pub is_word_of : (name : List ℕ) → KeyValue → Bool
is_word_of name Any = false
is_word_of name (Word field word) = bytes_eq field name
is_word_of name (Front field front) = false

-- the word at the position is the key's
abbrev pub is_at : FieldValue → (position : ℕ) → KeyValue → Bool
is_at field position key = is_same (Word field.0 (get_or field.1 position [])) key

-- the keys are in the field from `start` on next to each other, and the position is one of theirs
abbrev pub covers_from : FieldValue → List KeyValue → (position start : ℕ) → Bool
covers_from field run position start =
    starts_with is_same (drop start (field_keys field)) run && is_within start (length run) position

-- the keys are somewhere in the field next to each other, and the position is one of theirs
abbrev pub is_covered : FieldValue → List KeyValue → (position : ℕ) → Bool
is_covered field run position = list_any (λ start. covers_from field run position start.1) (numbered 0 field.1)
