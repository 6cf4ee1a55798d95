-- Keys, by which standing queries are found.
use Rattle.std.specs.Prelude.{ℕ, Bool, List, [], ◌∷◌, map}
use Rattle.std.specs.List.{list_any}
use Rattle.std.specs.Ordering.{nat_cmp, eq_by_cmp, then_cmp, on}
use Rattle.std.specs.Cmp.Lexicographic.{slice_cmp}
use Rattle.std.specs.FinMap as finite
use Rattle.std.specs.Arc.{arc_str_bytes}
use Rattle.std.specs.declared.cmp.Ordering.{Ordering}
use Rattle.clip_words.specs.Order.{bytes_cmp}
use Rattle.clip_extract.specs.declared.key.Key.{Key}
use Rattle.clip_extract.specs.declared.key.Key.TheVariants as variant

-- what every article has, a word that a field has, and what a word of a field begins with
pub data KeyValue : Type 0 where
  Any : KeyValue
  Word : (field word : List ℕ) → KeyValue
  Front : (field front : List ℕ) → KeyValue

abbrev pub key_of : Key → KeyValue
key_of variant.Any = Any
key_of (variant.Word field word) = Word (arc_str_bytes field) (arc_str_bytes word)
key_of (variant.Front field front) = Front (arc_str_bytes field) (arc_str_bytes front)

-- ---- order

abbrev pub rank : KeyValue → ℕ
rank Any = 0
rank (Word field word) = 1
rank (Front field front) = 2

abbrev pub texts : KeyValue → List (List ℕ)
texts Any = []
texts (Word field word) = field ∷ word ∷ []
texts (Front field front) = field ∷ front ∷ []

-- a key's field and text; of Any, nothing
abbrev pub field_of : KeyValue → List ℕ
field_of Any = []
field_of (Word field word) = field
field_of (Front field front) = field

abbrev pub text_of : KeyValue → List ℕ
text_of Any = []
text_of (Word field word) = word
text_of (Front field front) = front

-- Any first, then all words, then all fronts; of these by field, then by word or front, by their bytes
abbrev pub key_cmp : KeyValue → KeyValue → Ordering
key_cmp = then_cmp (on rank nat_cmp) (on texts (slice_cmp bytes_cmp))

abbrev pub is_same : KeyValue → KeyValue → Bool
is_same = eq_by_cmp key_cmp

-- the keys of a list in order, each once: those of the finite map that has them
abbrev pub in_order : List KeyValue → List KeyValue
in_order keys = finite.keys (finite.from_entries {R = key_cmp} (map (λ key. (key, tt {0})) keys))

-- the lists have a key in common
abbrev pub share : List KeyValue → List KeyValue → Bool
share keys others = list_any (λ key. list_any (is_same key) others) keys
