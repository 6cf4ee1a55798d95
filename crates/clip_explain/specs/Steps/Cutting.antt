-- A text that is cut into lexemes, up to what is left of it. A text is here the list of its characters.
use Rattle.std.specs.Prelude.{◌≡◌, ℕ, List, None, length, flat_map, encode_utf8_all}
use Rattle.clip_grammar.specs.Lexemes.{Lexeme, spell}
use Rattle.clip_grammar.specs.Steps.Lexer.{lexeme_at, Finds}
use Rattle.clip_explain.specs.Lexemes.{Placed, placed_from}

-- What is found in the text so far says these tokens at these places, up to the byte `end`; the rest is left.
pub record IsCutting (text : List ℕ) (placed : List Placed) (rest : List ℕ) (end : ℕ) : Type 0 where
  pub lexemes : List Lexeme
  pub finds : Finds text lexemes rest
  pub says : placed ≡ placed_from 0 lexemes
  pub place : end ≡ length (encode_utf8_all (flat_map spell lexemes))

-- no more is found in what is left
pub record IsCutUp (text : List ℕ) (placed : List Placed) (end : ℕ) : Type 0 where
  pub rest : List ℕ
  pub cutting : IsCutting text placed rest end
  pub stops : lexeme_at rest ≡ None
