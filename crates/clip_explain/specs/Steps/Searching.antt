-- The first lexeme that passes a test, looked for from the left.
use Rattle.std.specs.Prelude.{ℕ, Bool, false, List, [], ◌∷◌}
use Rattle.clip_grammar.specs.Tokens.{Token}
use Rattle.clip_grammar.specs.Steps.LeftOut.{is_star}
use Rattle.clip_explain.specs.Lexemes.{Placed}
use Rattle.clip_explain.specs.Places.{Test, FirstOf}

-- Where the first of these lexemes that passes is among the rest, with tokens earlier of which this is known.
pub record IsSearching (test : Test) (known : List Token → Type 0) (lexemes rest : List Placed) (end : ℕ) : Type 0 where
  pub earlier : List Token
  pub knows : known earlier
  pub goes_on : (at : ℕ) → FirstOf test earlier rest end at → FirstOf test [] lexemes end at

-- the tokens before, of which the last one comes first, end with a star
abbrev pub ends_star : List Token → Bool
ends_star [] = false
ends_star (t ∷ earlier) = is_star t
