-- What the lexer keeps of what it finds.
use Rattle.std.specs.Prelude.{ℕ, Bool, List, map, ◌++◌, Vec}
use Rattle.std.specs.Global.{Global}
use Rattle.std.specs.Borrow.{Bor}
use Rattle.clip_grammar.specs.Lexemes.{Piece}
use Rattle.clip_grammar.specs.Characters.{word_char, first_char, quotable_char, end_char}
use Rattle.clip_grammar.specs.Tokens.{glyph_of}
use Rattle.clip_grammar.specs.declared.glyph.Glyph.{Glyph}
use Rattle.clip_syntax.specs.declared.lexer.Place.{Place}
use Rattle.clip_syntax.specs.declared.lexer.Place.TheVariants as place

-- the characters that may stand at a place with no backslash
abbrev pub class_test : Place → ℕ → Bool
class_test place.WordStart = first_char
class_test place.Word = word_char
class_test place.Quoted = quotable_char
class_test place.End = end_char

-- a value of the code, and the text that is left
abbrev pub and_rest : {A : Type 0} → A × Bor (List ℕ) → A × List ℕ
and_rest found = (found.0, found.1.now)

abbrev pub glyphs_and_rest : Vec Glyph Global × Bor (List ℕ) → List Glyph × List ℕ
glyphs_and_rest found = (found.0.items, found.1.now)

abbrev pub glyph_and_rest : Piece × List ℕ → Glyph × List ℕ
glyph_and_rest found = (glyph_of found.0, found.1)

-- these glyphs, and then those of the pieces
abbrev pub glyphs_after : List Glyph → List Piece × List ℕ → List Glyph × List ℕ
glyphs_after gs found = (gs ++ map glyph_of found.0, found.1)
