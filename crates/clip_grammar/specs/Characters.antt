-- The classes of characters that the syntax tells apart. A text is here the list of its characters.
use Rattle.std.specs.Prelude.{ℕ, ◌+◌, ◌-◌, ◌*◌, Bool, not, ◌&&◌, ◌||◌, ◌==◌, nat_le, nat_lt, List, ◌∷◌, codes}
use Rattle.std.specs.Prelude.{if◌then◌else◌}
use Rattle.std.specs.List.{list_any}
use Prim.Native.String.{String}

abbrev pub is_among : List ℕ → ℕ → Bool
is_among cs c = list_any (λ d. c == d) cs

-- the character is one of the text's
abbrev pub is_one_of : String → ℕ → Bool
is_one_of text = is_among (codes text)

-- white space: space, tab, line feed, carriage return and the ideographic space
abbrev pub white_chars : List ℕ
white_chars = 0x3000 ∷ codes " \t\n\r"

abbrev pub is_white : ℕ → Bool
is_white = is_among white_chars

-- what may begin a word as it stands: no white space and no sign of the syntax
abbrev pub is_start : ℕ → Bool
is_start c = not (is_white c || is_one_of "+-!():^[]\"{}~*?\\/" c)

-- ---- where a character may stand with no backslash

-- first in a word the character may stand with no backslash
abbrev pub first_char : ℕ → Bool
first_char c = is_start c || is_one_of "*?" c

-- later in a word the character may stand with no backslash
abbrev pub word_char : ℕ → Bool
word_char c = is_start c || is_one_of "*?+-" c

-- between quotes the character may stand with no backslash
abbrev pub quotable_char : ℕ → Bool
quotable_char c = not (is_one_of "\"\\" c)

-- in the bare end of a range the character may stand with no backslash
abbrev pub end_char : ℕ → Bool
end_char c = not (is_white c || is_one_of "]}\\" c)

-- ---- characters by their numbers

abbrev pub is_hex : ℕ → Bool
is_hex = is_one_of "0123456789abcdefABCDEF"

abbrev pub hex_value : ℕ → ℕ
hex_value c = if is_one_of "0123456789" c then c - 48 else (if is_one_of "abcdef" c then c - 87 else c - 55)

abbrev pub code_value : ℕ → ℕ → ℕ → ℕ → ℕ
code_value a b c d = ((hex_value a * 16 + hex_value b) * 16 + hex_value c) * 16 + hex_value d

abbrev pub is_surrogate : ℕ → Bool
is_surrogate n = nat_le 0xD800 n && nat_lt n 0xE000

-- four digits that name a character
abbrev pub is_code : ℕ → ℕ → ℕ → ℕ → Bool
is_code a b c d = is_hex a && is_hex b && is_hex c && is_hex d && not (is_surrogate (code_value a b c d))
