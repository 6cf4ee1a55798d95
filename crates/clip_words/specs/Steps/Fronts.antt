-- Places at which the words of a text are those of its two parts, as the code finds them.
use Rattle.std.specs.Prelude.{◌≡◌, ℕ, ◌-◌, ◌<◌, Bool, true, false, not, ◌&&◌, ◌||◌, ◌==◌, nat_lt, List, [], ◌∷◌}
use Rattle.std.specs.Prelude.{slice_index, slice_range, ◌+◌, ◌≤◌, length, drop, map}
use Rattle.std.specs.Char.{is_ascii_alphanumeric, to_ascii_lowercase}
use Rattle.std.specs.List.{list_all}
use Rattle.unicode_segmentation.specs.Word.{words}
use Rattle.clip_words.specs.declared.fronts.FrontPart.{FrontPart}
use Rattle.clip_words.specs.declared.fronts.FrontPart.TheVariants.{Word, Text}

-- `.`, `'`, `:`, `,` and `;`, each of which may stand within a word
abbrev pub is_word_mark : ℕ → Bool
is_word_mark c = c == 46 || (c == 39 || (c == 58 || (c == 44 || c == 59)))

-- what stands between words, and never within one: in ASCII, but for letters, digits, those marks and `_`
abbrev pub is_separator : ℕ → Bool
is_separator c = nat_lt c 128 && not (is_ascii_alphanumeric c || (is_word_mark c || c == 95))

-- a word may end before this text
abbrev pub ends_word : List ℕ → Bool
ends_word [] = true
ends_word (c ∷ cs) = is_separator c

-- a separator stands before the place, and after it another ASCII character
abbrev pub IsSeam : List ℕ → ℕ → Type 0
IsSeam text at =
    (0 < at) × (is_separator (slice_index text (at - 1)) ≡ true)
    × (slice_index text at < 128) × (is_separator (slice_index text at) ≡ false)

-- the words of a front
abbrev pub front_words : FrontPart → List (List ℕ)
front_words (Word word start) = word.now ∷ []
front_words (Text text) = words text.now

-- one word of a front has letters and digits alone
abbrev pub has_letters : FrontPart → Bool
has_letters (Word word start) = list_all is_ascii_alphanumeric word.now
has_letters (Text text) = true

-- a word of a front stands in the text where it begins
abbrev pub IsInside : (text : List ℕ) → FrontPart → Type 0
IsInside text (Word word start) =
    (0 < length word.now) × (start + length word.now ≤ length text)
    × (word.now ≡ slice_range text start (start + length word.now))
IsInside text (Text part) = Unit {0}

-- a text is what is left of another
abbrev pub IsRest : (text rest : List ℕ) → Type 0
IsRest text rest = (length rest ≤ length text) × (rest ≡ drop (length text - length rest) text)

-- a word of a front stands in a text in lower case, where the front begins at a place
abbrev pub IsLowered : (text : List ℕ) → (at : ℕ) → FrontPart → Type 0
IsLowered text at (Word word start) =
    (0 < length word.now) × (at + start + length word.now ≤ length text)
    × (slice_range text (at + start) (at + start + length word.now) ≡ map to_ascii_lowercase word.now)
IsLowered text at (Text part) = Unit {0}
