-- Remarks that a single lexeme is enough for, by what it says. A text is its bytes.
use Rattle.std.specs.Prelude.{not, ℕ, Bool, true, false, ◌&&◌, ◌||◌, ◌==◌, List, [], ◌∷◌, codes, if◌then◌else◌}
use Rattle.std.specs.List.{list_all}
use Rattle.std.specs.Char.{to_ascii_lowercase, is_ascii_digit}
use Rattle.std.specs.Str.{bytes_eq}
use Rattle.unicode_segmentation.specs.Word.{words}
use Rattle.clip_grammar.specs.Tokens.{Token, Plain, Front, Phrase, Range, End, With, Without, Free}
use Rattle.clip_remarks.specs.Texts.{has_char, has_piece, has_several}
use Rattle.clip_remarks.specs.declared.sort.Sort.TheVariants as sort
use Rattle.clip_remarks.specs.declared.pieces.Part.TheVariants as part
use Rattle.clip_remarks.specs.declared.rule.Rule.{Rule}
use Rattle.clip_remarks.specs.declared.rule.Rule.TheVariants as rule

-- ---- words that are spelled as operators or fields

abbrev pub is_empty : List ℕ → Bool
is_empty [] = true
is_empty (_ ∷ _) = false

-- The text is this name in ASCII but for case; where digits are let in, some may stand behind it.
abbrev pub is_named : (digits : Bool) → (name : List ℕ) → (text : List ℕ) → Bool
is_named digits [] text = if digits then list_all is_ascii_digit text else is_empty text
is_named digits (c ∷ name) [] = false
is_named digits (c ∷ name) (b ∷ text) = to_ascii_lowercase b == c && is_named digits name text

-- `and`, `or` and `not`; a word is none of these where it is an operator
abbrev pub is_joining : List ℕ → Bool
is_joining text =
    is_named false (codes "and") text || is_named false (codes "or") text || is_named false (codes "not") text

-- an operator of other syntaxes
abbrev pub is_foreign : List ℕ → Bool
is_foreign text =
    is_named true (codes "near") text || is_named true (codes "onear") text || is_named true (codes "adj") text
    || is_named true (codes "atleast") text || is_named true (codes "andnot") text || is_named true (codes "xor") text

-- a field that articles most likely have
abbrev pub is_known_field : List ℕ → Bool
is_known_field name = bytes_eq name (codes "title") || bytes_eq name (codes "text")

-- such a field but for case
abbrev pub is_known_in_any_case : List ℕ → Bool
is_known_in_any_case name = is_named false (codes "title") name || is_named false (codes "text") name

-- the first byte is this one; a dot is 46, an apostrophe 39
abbrev pub begins_with : ℕ → List ℕ → Bool
begins_with byte [] = false
begins_with byte (b ∷ _) = b == byte

-- a quote that makes no phrase
abbrev pub has_other_quote : List ℕ → Bool
has_other_quote text = begins_with 39 text || has_piece (part.BetweenWith sort.Curly) text

-- a sign that is no part of a word, and one word at most
abbrev pub has_sign_apart : List ℕ → Bool
has_sign_apart text =
    (begins_with 46 text || has_piece (part.BetweenWith sort.Sign) text) && not (has_several (words text))

-- ---- what is told of a lexeme by what it says

-- of a word
abbrev pub tells_of_word : Rule → List ℕ → Bool
tells_of_word rule.LowerCaseOperator text = is_joining text
tells_of_word rule.ForeignOperator text = is_foreign text
tells_of_word rule.CommaList text = has_piece (part.BetweenWith sort.Comma) text
tells_of_word rule.OtherQuote text = has_other_quote text
tells_of_word rule.DroppedSign text = has_sign_apart text
tells_of_word rule.SignMakesPhrase text = has_several (words text) && has_piece part.Between text
tells_of_word rule.Capitals text = has_piece part.Capitals text
tells_of_word rule.Apostrophe text = has_piece (part.WordWith sort.Apostrophe) text
tells_of_word _ text = false

-- of a prefix, without its star
abbrev pub tells_of_front : Rule → List ℕ → Bool
tells_of_front rule.CommaList text = has_piece (part.BetweenWith sort.Comma) text
tells_of_front rule.OtherQuote text = has_other_quote text
tells_of_front rule.SignInPrefix text = has_several (words text) || has_piece (part.BetweenWith sort.Sign) text
tells_of_front rule.Apostrophe text = has_piece (part.WordWith sort.Apostrophe) text
tells_of_front _ text = false

-- of a text between quotes
abbrev pub tells_of_phrase : Rule → List ℕ → Bool
tells_of_phrase rule.WildcardInQuotes text = has_char sort.Star text
tells_of_phrase rule.OperatorInQuotes text = has_piece part.Operator text
tells_of_phrase rule.SignInQuotes text = has_piece (part.BetweenWith sort.Sign) text
tells_of_phrase rule.Capitals text = has_piece part.Capitals text
tells_of_phrase rule.Apostrophe text = has_piece (part.WordWith sort.Apostrophe) text
tells_of_phrase _ text = false

abbrev pub has_digit : End → Bool
has_digit Free = false
has_digit (With text) = has_char sort.Digit text
has_digit (Without text) = has_char sort.Digit text

-- of a range
abbrev pub tells_of_range : Rule → End → End → Bool
tells_of_range rule.RangeOfDigits low high = has_digit low || has_digit high
tells_of_range _ low high = false

abbrev pub tells_of_token : Rule → Token → Bool
tells_of_token rule (Plain text) = tells_of_word rule text
tells_of_token rule (Front text) = tells_of_front rule text
tells_of_token rule (Phrase text) = tells_of_phrase rule text
tells_of_token rule (Range low high) = tells_of_range rule low high
tells_of_token rule _ = false
