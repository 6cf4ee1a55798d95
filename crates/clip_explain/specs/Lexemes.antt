-- The lexemes of a text, each with where it stands. A text is here its bytes.
use Rattle.std.specs.Prelude.{◌≡◌, ℕ, ◌+◌, ◌≤◌, List, [], ◌∷◌, ◌++◌, map, length, encode_utf8_all}
use Rattle.std.specs.Str.{IsCharBoundary}
use Rattle.clip_grammar.specs.Lexemes as grammar
use Rattle.clip_grammar.specs.Lexemes.{spell}
use Rattle.clip_grammar.specs.Reading.{IsStuck}
use Rattle.clip_grammar.specs.Tokens.{Token, tokens_of_lexeme}
use Rattle.clip_syntax.specs.Steps.TokenOf.{token_of}
use Rattle.clip_explain.specs.declared.cutting.Lexeme.{Lexeme}

-- a token, and the bytes at which its lexeme begins and ends
pub record Placed : Type 0 where
  pub token : Token
  pub start : ℕ
  pub end : ℕ

-- how many bytes a lexeme takes
abbrev pub byte_len : grammar.Lexeme → ℕ
byte_len l = length (encode_utf8_all (spell l))

-- what a lexeme says that begins at this byte: a token with its place, or nothing where it is white space
abbrev pub placed_at : (start : ℕ) → grammar.Lexeme → List Placed
placed_at start l =
    map (λ token. record { token = token; start = start; end = start + byte_len l }) (tokens_of_lexeme l)

-- what lexemes say, one after the other, of which the first begins at this byte
abbrev pub placed_from : (start : ℕ) → List grammar.Lexeme → List Placed
placed_from start [] = []
placed_from start (l ∷ ls) = placed_at start l ++ placed_from (start + byte_len l) ls

-- The text is cut into lexemes up to the byte `end`, and no further; they say these tokens at these places.
pub record IsCut (text : List ℕ) (placed : List Placed) (end : ℕ) : Type 0 where
  pub cut : IsStuck text end
  pub says : placed ≡ placed_from 0 cut.lexemes

-- the lexeme may be cut out of the text
pub record IsPiece (text : List ℕ) (l : Placed) : Type 0 where
  pub ordered : l.start ≤ l.end
  pub start : IsCharBoundary text l.start
  pub end : IsCharBoundary text l.end

-- the lexemes are pieces of the text, each behind the one before it, and the first at the byte `from` or behind it
abbrev pub StandApart : (text : List ℕ) → (from : ℕ) → List Placed → Type 0
StandApart text from [] = Unit {0}
StandApart text from (l ∷ ls) = (from ≤ l.start) × IsPiece text l × StandApart text l.end ls

-- a lexeme without where its token lies in memory
abbrev pub placed_of : Lexeme → Placed
placed_of l = record { token = token_of l.token; start = l.start; end = l.end }
