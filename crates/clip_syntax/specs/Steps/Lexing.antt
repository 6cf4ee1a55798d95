-- What the lexer says of the beginning of a text.
use Rattle.std.specs.Prelude.{◌≡◌, ℕ, List, [], ◌∷◌, map, Option, None, option_to_list}
use Rattle.std.specs.Borrow.{Bor}
use Rattle.clip_grammar.specs.Lexemes.{Lexeme}
use Rattle.clip_grammar.specs.Steps.Lexer.{lexeme_at, Finds}
use Rattle.clip_grammar.specs.Tokens.{Token, tokens_of_lexeme, tokens_of}
use Rattle.clip_syntax.specs.Steps.TokenOf.{token_of}
use Rattle.clip_syntax.specs.declared.token.Token as code

abbrev pub with_tokens : Lexeme × List ℕ → List Token × List ℕ
with_tokens found = (tokens_of_lexeme found.0, found.1)

abbrev pub token_and_rest : code.Token × Bor (List ℕ) → List Token × List ℕ
token_and_rest found = (token_of found.0 ∷ [], found.1.now)

abbrev pub tokens_and_rest : Option code.Token × Bor (List ℕ) → List Token × List ℕ
tokens_and_rest found = (map token_of (option_to_list found.0), found.1.now)

-- these tokens are said of the text by what is found in it so far
pub record IsLexing (text : List ℕ) (tokens : List Token) (rest : List ℕ) : Type 0 where
  pub lexemes : List Lexeme
  pub finds : Finds text lexemes rest
  pub says : tokens ≡ tokens_of lexemes

-- these tokens are said of the text, and no more is found in it
abbrev pub IsLexed : List ℕ → List Token → List ℕ → Type 0
IsLexed text tokens rest = IsLexing text tokens rest × (lexeme_at rest ≡ None)
