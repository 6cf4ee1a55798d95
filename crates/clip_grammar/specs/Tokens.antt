-- What a lexeme says, however it is spelled. A text is here its bytes.
use Rattle.std.specs.Prelude.{ℕ, Bool, true, false, not, ◌&&◌, ◌||◌, ◌==◌, List, [], ◌∷◌, map, flat_map, length, take}
use Rattle.std.specs.Prelude.{◌-◌, encode_utf8_all, codes, if◌then◌else◌}
use Rattle.std.specs.List.{list_any}
use Rattle.clip_grammar.specs.Lexemes as lexeme
use Rattle.clip_grammar.specs.Lexemes.{Piece, RangeEnd, BareEnd, QuotedEnd, Lexeme, Blank, Word, Quoted, Sign, Foreign}
use Rattle.clip_grammar.specs.Characters.{code_value}
use Rattle.clip_grammar.specs.declared.glyph.Glyph.{Glyph}
use Rattle.clip_grammar.specs.declared.glyph.Glyph.TheVariants.{Bare, Escaped}

-- an end of a range
pub data End : Type 0 where
  Free : End
  With : (text : List ℕ) → End
  Without : (text : List ℕ) → End

pub data Token : Type 0 where
  Plus : Token
  Minus : Token
  Bang : Token
  Not : Token
  And : Token
  Or : Token
  Open : Token
  Close : Token
  Colon : Token
  Star : Token
  -- of a plain Word, a prefix Word, a Quoted, a Range
  Plain : (text : List ℕ) → Token
  Front : (text : List ℕ) → Token
  Phrase : (text : List ℕ) → Token
  Range : (low high : End) → Token
  -- what is left out: an operator in a longer word, a wild card inside a word, a form of another syntax
  Other : Token

-- a character of a text, and whether it stands after a backslash
abbrev pub glyph_of : Piece → Glyph
glyph_of (lexeme.Bare c) = Bare c
glyph_of (lexeme.Escape c) = Escaped c
glyph_of (lexeme.Code a b c d) = Escaped (code_value a b c d)

abbrev pub char_of : Glyph → ℕ
char_of (Bare c) = c
char_of (Escaped c) = c

-- the text that the glyphs stand for
abbrev pub text_of : List Glyph → List ℕ
text_of gs = encode_utf8_all (map char_of gs)

-- the glyph is this character as it stands
abbrev pub is_bare : ℕ → Glyph → Bool
is_bare c (Bare d) = c == d
is_bare c (Escaped d) = false

-- the glyphs are these characters as they stand
abbrev pub is_spelled : List ℕ → List Glyph → Bool
is_spelled [] [] = true
is_spelled (c ∷ cs) (g ∷ gs) = is_bare c g && is_spelled cs gs
is_spelled _ _ = false

-- a star or a question mark as it stands
abbrev pub is_wild : Glyph → Bool
is_wild g = is_bare 42 g || is_bare 63 g

-- all glyphs but the last
abbrev pub front_of : List Glyph → List Glyph
front_of gs = take (length gs - 1) gs

-- a star (42) is last, and no star or question mark is before it
abbrev pub ends_in_star : List Glyph → Bool
ends_in_star [] = false
ends_in_star (g ∷ []) = is_bare 42 g
ends_in_star (g ∷ h ∷ gs) = not (is_wild g) && ends_in_star (h ∷ gs)

-- two ampersands (38) or two bars (124) in a row, as they stand
abbrev pub has_operator : List Glyph → Bool
has_operator [] = false
has_operator (g ∷ []) = false
has_operator (g ∷ h ∷ gs) = (is_bare 38 g && is_bare 38 h) || (is_bare 124 g && is_bare 124 h) || has_operator (h ∷ gs)

abbrev pub is_and : List Glyph → Bool
is_and gs = is_spelled (codes "AND") gs || is_spelled (codes "&&") gs

abbrev pub is_or : List Glyph → Bool
is_or gs = is_spelled (codes "OR") gs || is_spelled (codes "||") gs

-- what a Word says
unfoldable pub word_token : List Glyph → Token
word_token gs =
    if is_spelled (codes "*") gs then Star
    else (if is_and gs then And
    else (if is_or gs then Or
    else (if has_operator gs then Other
    else (if is_spelled (codes "NOT") gs then Not
    else (if not (list_any is_wild gs) then Plain (text_of gs)
    else (if ends_in_star gs then Front (text_of (front_of gs))
    else Other))))))

-- what a sign says: + is 43, - is 45, ! is 33, the parentheses are 40 and 41, and else it is a colon
unfoldable pub sign_token : ℕ → Token
sign_token c =
    if c == 43 then Plus
    else (if c == 45 then Minus
    else (if c == 33 then Bang
    else (if c == 40 then Open
    else (if c == 41 then Close
    else Colon))))

-- an end with this text, by whether its bracket lets it in
abbrev pub closing : Bool → List ℕ → End
closing closed text = if closed then With text else Without text

-- an end of a range, by the bracket on its side: [ is 91 and ] is 93
abbrev pub end_token : Bool → RangeEnd → End
end_token closed (BareEnd ps) =
    let gs = map glyph_of ps in if is_spelled (codes "*") gs then Free else closing closed (text_of gs)
end_token closed (QuotedEnd ps) = closing closed (text_of (map glyph_of ps))

-- a blank says nothing
abbrev pub tokens_of_lexeme : Lexeme → List Token
tokens_of_lexeme (Blank _) = []
tokens_of_lexeme (Word ps) = word_token (map glyph_of ps) ∷ []
tokens_of_lexeme (Quoted ps) = Phrase (text_of (map glyph_of ps)) ∷ []
tokens_of_lexeme (lexeme.Range left _ low _ _ high _ right) =
    Range (end_token (left == 91) low) (end_token (right == 93) high) ∷ []
tokens_of_lexeme (Sign c) = sign_token c ∷ []
tokens_of_lexeme (Foreign _) = Other ∷ []

abbrev pub tokens_of : List Lexeme → List Token
tokens_of = flat_map tokens_of_lexeme
