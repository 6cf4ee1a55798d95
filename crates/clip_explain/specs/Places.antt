-- Where the fault of a refused text is. A text is here its bytes.
use Rattle.std.specs.Prelude.{◌≡◌, ℕ, ◌⊎◌, List, [], ◌∷◌, ◌++◌, Some, map, length, reverse, IsTrue}
use Rattle.clip_words.specs.Words.{words_of}
use Rattle.clip_grammar.specs.Tokens.{Token}
use Rattle.clip_grammar.specs.Shape.{Written, tokens}
use Rattle.clip_grammar.specs.Reading.{begins_colon_star}
use Rattle.clip_grammar.specs.Steps.LeftOut.{begins_left_out}
use Rattle.clip_grammar.specs.Steps.Parser.{begins_colon}
use Rattle.clip_grammar.specs.declared.fault.QueryFault.{QueryFault}
use Rattle.clip_grammar.specs.declared.fault.QueryFault.TheVariants as fault
use Rattle.clip_grammar.specs.declared.limits.TheConstants.{MOST_TEXT_BYTES}
use Rattle.clip_syntax.specs.Steps.Items.{item_text}
use Rattle.clip_explain.specs.Lexemes.{Placed, IsCut}

-- what is asked of a token: between those before it, of which the last one comes first, and those after it
abbrev pub Test : Type 1
Test = (earlier : List Token) → Token → (later : List Token) → Type 0

abbrev pub tokens_in : List Placed → List Token
tokens_in = map (λ l. l.token)

-- The first of these lexemes that passes the test begins at the byte `at`, which is the end where none passes it.
abbrev pub FirstOf : Test → (earlier : List Token) → List Placed → (end at : ℕ) → Type 0
FirstOf test earlier [] end at = at ≡ end
FirstOf test earlier (l ∷ ls) end at =
    (test earlier l.token (tokens_in ls) × (at ≡ l.start))
    ⊎ ((¬ (test earlier l.token (tokens_in ls))) × FirstOf test (l.token ∷ earlier) ls end at)

-- The text is cut into lexemes to its end, and the first of them that passes the test begins at the byte `at`.
pub record FirstIn (test : Test) (text : List ℕ) (at : ℕ) : Type 0 where
  pub lexemes : List Placed
  pub cut : IsCut text lexemes (length text)
  pub first : FirstOf test [] lexemes (length text) at

-- ---- what is asked

-- the token is left out: the syntax doesn't have it, or it's a star that is no half of `*:*`
abbrev pub IsLeftOut : Test
IsLeftOut earlier token later = IsTrue (begins_left_out (begins_colon_star earlier) token later)

-- the tokens are the beginning of some clauses
pub record BeginClauses (ts : List Token) : Type 0 where
  pub written : Written
  pub others : List Token
  pub parts : tokens written ≡ ts ++ others

-- the tokens up to this one are the beginning of no clauses
abbrev pub IsOutOfPlace : Test
IsOutOfPlace earlier token later = ¬ (BeginClauses (reverse (token ∷ earlier)))

-- the token is a plain or quoted item that has no words
abbrev pub HasNoWords : Test
HasNoWords earlier token later =
    (text : List ℕ) × (item_text token (begins_colon later) ≡ Some text) × (words_of text ≡ [])

-- ---- faults

-- The fault of the text is at this byte. Too long a text is so from the first byte past the bound, and a text that is
-- too big as a whole.
abbrev pub IsPlace : List ℕ → QueryFault → ℕ → Type 0
IsPlace text fault.TooLong at = at ≡ MOST_TEXT_BYTES
IsPlace text (fault.Lexical stuck) at = at ≡ stuck
IsPlace text fault.LeftOut at = FirstIn IsLeftOut text at
IsPlace text fault.Structure at = FirstIn IsOutOfPlace text at
IsPlace text fault.NoWords at = FirstIn HasNoWords text at
IsPlace text fault.TooBig at = at ≡ length text
IsPlace text fault.NoMemory at = ⊥
