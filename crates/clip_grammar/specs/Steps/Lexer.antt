-- The beginning of a text, cut as the lexer cuts it: what is found there, and what is left.
use Rattle.std.specs.Prelude.{◌≡◌, ℕ, zero, suc, Bool, ◌&&◌, ◌==◌, List, [], ◌∷◌, length, Option, Some, None}
use Rattle.std.specs.Prelude.{if◌then◌else◌}
use Rattle.clip_grammar.specs.Lexemes.{Piece, Bare, Escape, Code, RangeEnd, BareEnd, QuotedEnd, Lexeme, Blank, Word}
use Rattle.clip_grammar.specs.Lexemes.{Quoted, Range, Sign, Foreign, is_gap, is_end}
use Rattle.clip_grammar.specs.Characters.{is_white, is_one_of, is_code, first_char, word_char, quotable_char, end_char}

-- the first piece of a text, and what is left
abbrev pub code_at : List ℕ → Option (Piece × List ℕ)
code_at (a ∷ b ∷ c ∷ d ∷ cs) = if is_code a b c d then Some (Code a b c d, cs) else None
code_at _ = None

unfoldable pub escape_at : List ℕ → Option (Piece × List ℕ)
escape_at [] = None
escape_at (c ∷ cs) = if c == 117 then code_at cs else Some (Escape c, cs)

unfoldable pub piece_at : (ℕ → Bool) → List ℕ → Option (Piece × List ℕ)
piece_at test [] = None
piece_at test (c ∷ cs) = if c == 92 then escape_at cs else (if test c then Some (Bare c, cs) else None)

-- the first pieces of a text, at most n of them, and what is left
abbrev pub go_on : (List ℕ → List Piece × List ℕ) → List ℕ → Option (Piece × List ℕ) → List Piece × List ℕ
go_on more cs None = ([], cs)
go_on more cs (Some found) = (found.0 ∷ (more found.1).0, (more found.1).1)

unfoldable pub pieces_within : (ℕ → Bool) → ℕ → List ℕ → List Piece × List ℕ
pieces_within test zero cs = ([], cs)
pieces_within test (suc n) cs = go_on (pieces_within test n) cs (piece_at test cs)

unfoldable pub pieces_at : (ℕ → Bool) → List ℕ → List Piece × List ℕ
pieces_at test cs = pieces_within test (length cs) cs

-- a quoted text after its opening quote, and what is left
abbrev pub close_quote : List Piece × List ℕ → Option (Lexeme × List ℕ)
close_quote (ps, []) = None
close_quote (ps, c ∷ cs) = if c == 34 then Some (Quoted ps, cs) else None

unfoldable pub quoted_at : List ℕ → Option (Lexeme × List ℕ)
quoted_at cs = close_quote (pieces_at quotable_char cs)

-- the white space that a text begins with, and what is left
unfoldable pub span_white : List ℕ → List ℕ × List ℕ
span_white [] = ([], [])
span_white (c ∷ cs) = if is_white c then (c ∷ (span_white cs).0, (span_white cs).1) else ([], c ∷ cs)

unfoldable pub gap_at : List ℕ → Option (List ℕ × List ℕ)
gap_at cs = let gap = span_white cs in if is_gap gap.0 then Some gap else None

-- what is left after TO; a closing bracket, and what is left
unfoldable pub to_at : List ℕ → Option (List ℕ)
to_at [] = None
to_at (a ∷ []) = None
to_at (a ∷ b ∷ cs) = if a == 84 && b == 79 then Some cs else None

unfoldable pub bracket_at : List ℕ → Option (ℕ × List ℕ)
bracket_at [] = None
bracket_at (c ∷ cs) = if is_one_of "]}" c then Some (c, cs) else None

-- the first end of a range in a text, and what is left
abbrev pub close_end : List Piece × List ℕ → Option (RangeEnd × List ℕ)
close_end (ps, []) = None
close_end (ps, c ∷ cs) = if c == 34 && is_end (QuotedEnd ps) then Some (QuotedEnd ps, cs) else None

abbrev pub bare_end : List Piece × List ℕ → Option (RangeEnd × List ℕ)
bare_end (ps, cs) = if is_end (BareEnd ps) then Some (BareEnd ps, cs) else None

unfoldable pub ending_at : List ℕ → Option (RangeEnd × List ℕ)
ending_at [] = None
ending_at (c ∷ cs) = if c == 34 then close_end (pieces_at quotable_char cs) else bare_end (pieces_at end_char (c ∷ cs))

infixl 10 ◌>>=◌
abbrev pub ◌>>=◌ : {A B : Type 0} → Option A → (A → Option B) → Option B
None >>= f = None
(Some x) >>= f = f x

-- a range after its opening bracket, and what is left
unfoldable pub range_at : ℕ → List ℕ → Option (Lexeme × List ℕ)
range_at left cs = do
  low ← ending_at (span_white cs).1
  b ← gap_at low.1
  to ← to_at b.1
  c ← gap_at to
  high ← ending_at c.1
  right ← bracket_at (span_white high.1).1
  Some (Range left (span_white cs).0 low.0 b.0 c.0 high.0 (span_white high.1).0 right.0, right.1)

abbrev pub word_with : Option (Piece × List ℕ) → Option (Lexeme × List ℕ)
word_with None = None
word_with (Some first) = let others = pieces_at word_char first.1 in Some (Word (first.0 ∷ others.0), others.1)

unfoldable pub word_at : List ℕ → Option (Lexeme × List ℕ)
word_at cs = word_with (piece_at first_char cs)

unfoldable pub lexeme_at : List ℕ → Option (Lexeme × List ℕ)
lexeme_at [] = None
lexeme_at (c ∷ cs) =
    if is_white c then Some (Blank c, cs)
    else (if is_one_of "+-!():" c then Some (Sign c, cs)
    else (if is_one_of "~^/" c then Some (Foreign c, cs)
    else (if c == 34 then quoted_at cs
    else (if is_one_of "[{" c then range_at c cs
    else word_at (c ∷ cs)))))

-- the lexemes are found one after the other, and the rest is left
abbrev pub Finds : List ℕ → List Lexeme → List ℕ → Type 0
Finds cs [] rest = cs ≡ rest
Finds cs (l ∷ ls) rest = (mid : List ℕ) × (lexeme_at cs ≡ Some (l, mid)) × Finds mid ls rest
