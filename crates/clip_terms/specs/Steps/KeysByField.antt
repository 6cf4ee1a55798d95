-- The keys of an article field by field, with the words of each field in order.
use Rattle.std.specs.Prelude.{ℕ, Bool, false, List, [], ◌∷◌, map, Option, Some, None, cond}
use Rattle.std.specs.FinMap as finite
use Rattle.std.specs.Str.{bytes_eq}
use Rattle.clip_words.specs.Order.{bytes_cmp}
use Rattle.clip_extract.specs.Keys.{KeyValue, Word}

-- the words in byte order, each once
abbrev pub words_in_order : List (List ℕ) → List (List ℕ)
words_in_order words = finite.keys (finite.from_entries {R = bytes_cmp} (map (λ word. (word, tt {0})) words))

-- a field's words in byte order as keys, each once
abbrev pub ordered_keys : List ℕ × List (List ℕ) → List KeyValue
ordered_keys field = map (Word field.0) (words_in_order field.1)

-- the word is this one
abbrev pub is_word : Option (List ℕ) → List ℕ → Bool
is_word None word = false
is_word (Some last) word = bytes_eq last word

-- the words, each of which differs from the one that was kept before it
abbrev pub differing : Option (List ℕ) → List (List ℕ) → List (List ℕ)
differing last [] = []
differing last (word ∷ words) = cond (is_word last word) (differing last words) (word ∷ differing (Some word) words)

-- what a word adds to a field's keys, after the last one that was kept
abbrev pub key_added : (field : List ℕ) → Option (List ℕ) → (word : List ℕ) → List KeyValue
key_added field last word = cond (is_word last word) [] (Word field word ∷ [])
