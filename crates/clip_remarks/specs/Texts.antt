-- Characters and pieces of a text. A text is its bytes.
use Rattle.std.specs.Prelude.{ℕ, Bool, true, false, not, ◌&&◌, ◌||◌, ◌==◌, nat_le, List, [], ◌∷◌, codes}
use Rattle.std.specs.List.{list_any}
use Rattle.std.specs.Str.{chars, bytes_eq}
use Rattle.unicode_segmentation.specs.Word.{word_bounds, words}
use Rattle.clip_remarks.specs.declared.sort.Sort.{Sort}
use Rattle.clip_remarks.specs.declared.sort.Sort.TheVariants as sort
use Rattle.clip_remarks.specs.declared.pieces.Part.{Part}
use Rattle.clip_remarks.specs.declared.pieces.Part.TheVariants as part

-- ---- characters

-- a comma, a semicolon, and both commas of Chinese and Japanese
abbrev pub is_comma : ℕ → Bool
is_comma c = c == 44 || c == 59 || c == 0x3001 || c == 0xFF0C

-- a quote that is curly, low or an angle; the curly apostrophe, 0x2019, is none
abbrev pub is_curly : ℕ → Bool
is_curly c = c == 0x2018 || (nat_le 0x201A c && nat_le c 0x201F) || c == 0xAB || c == 0xBB || c == 0x2039 || c == 0x203A

-- ' or the curly one
abbrev pub is_apostrophe : ℕ → Bool
is_apostrophe c = c == 39 || c == 0x2019

-- what prose has between words, or a longer word within: blanks, apostrophes, parentheses, dots and colons, hyphens
-- and dashes, ellipses, the low line, the Hebrew double stroke
abbrev pub is_prose : ℕ → Bool
is_prose c =
    nat_le c 32 || (nat_le 39 c && nat_le c 41) || c == 45 || c == 46 || c == 58 || c == 95 || c == 0xA0
    || c == 0xAD || c == 0xB7 || c == 0x5F4 || (nat_le 0x2000 c && nat_le c 0x2027) || c == 0x202F || c == 0x3000
    || c == 0x3002

-- a character that stands for something itself, where it is no part of a word
abbrev pub is_sign : ℕ → Bool
is_sign c = not (is_comma c || is_curly c || is_prose c)

abbrev pub is_capital : ℕ → Bool
is_capital c = nat_le 65 c && nat_le c 90

abbrev pub is_in : Sort → ℕ → Bool
is_in sort.Comma c = is_comma c
is_in sort.Curly c = is_curly c
is_in sort.Apostrophe c = is_apostrophe c
is_in sort.Sign c = is_sign c
is_in sort.NoCapital c = not (is_capital c)
is_in sort.Digit c = nat_le 48 c && nat_le c 57
is_in sort.Star c = c == 42

-- the text has a character of the sort
abbrev pub has_char : Sort → List ℕ → Bool
has_char s text = list_any (is_in s) (chars text)

-- ---- pieces between word boundaries

abbrev pub is_nonempty : List (List ℕ) → Bool
is_nonempty [] = false
is_nonempty (_ ∷ _) = true

abbrev pub has_several : List (List ℕ) → Bool
has_several (_ ∷ _ ∷ _) = true
has_several _ = false

-- the piece is between words, and no word
abbrev pub is_between : List ℕ → Bool
is_between piece = not (is_nonempty (words piece))

-- two or more bytes, and all capitals
abbrev pub is_capitals : List ℕ → Bool
is_capitals (b ∷ c ∷ cs) = not (has_char sort.NoCapital (b ∷ c ∷ cs))
is_capitals _ = false

abbrev pub is_operator : List ℕ → Bool
is_operator piece =
    bytes_eq piece (codes "AND") || bytes_eq piece (codes "OR") || bytes_eq piece (codes "NOT")
    || bytes_eq piece (codes "NEAR")

abbrev pub is_part : Part → List ℕ → Bool
is_part part.Between piece = is_between piece
is_part (part.BetweenWith s) piece = is_between piece && has_char s piece
is_part (part.WordWith s) piece = not (is_between piece) && has_char s piece
is_part part.Capitals piece = is_capitals piece
is_part part.Operator piece = is_operator piece

-- the text has such a piece between its word boundaries
abbrev pub has_piece : Part → List ℕ → Bool
has_piece p text = list_any (is_part p) (word_bounds text)
