-- Which tree a text is read as, and why a text is refused. A text is here its bytes.
use Rattle.std.specs.Prelude.{◌≡◌, ℕ, ◌+◌, ◌<◌, ◌≤◌, ◌⊎◌, Bool, true, false, not, List, ◌∷◌, ◌++◌, length, reverse}
use Rattle.std.specs.Prelude.{encode_utf8_all, Contains, IsTrue}
use Rattle.std.specs.Str.{chars}
use Rattle.clip_grammar.specs.Lexemes.{Lexeme, Lexes}
use Rattle.clip_grammar.specs.Tokens as token
use Rattle.clip_grammar.specs.Tokens.{Token, tokens_of}
use Rattle.clip_grammar.specs.Tree.{Tree, nodes, depth}
use Rattle.clip_grammar.specs.Shape.{Written, tokens, written_tree, lacks_words}
use Rattle.clip_grammar.specs.declared.limits.TheConstants.{MOST_TEXT_BYTES, MOST_NODES, MOST_OPEN}
use Rattle.clip_grammar.specs.declared.fault.QueryFault.{QueryFault}
use Rattle.clip_grammar.specs.declared.fault.QueryFault.TheVariants as fault

-- the text is read as this tree
pub record Reads (text : List ℕ) (tree : Tree) : Type 0 where
  pub lexemes : List Lexeme
  pub written : Written
  pub lexes : Lexes (chars text) lexemes
  pub shape : tokens written ≡ tokens_of lexemes
  pub is_tree : tree ≡ written_tree written

-- The first `at` bytes are spelled by lexemes, and no more are.
pub record IsStuck (text : List ℕ) (at : ℕ) : Type 0 where
  pub front : List ℕ
  pub rest : List ℕ
  pub lexemes : List Lexeme
  pub parts : front ++ rest ≡ chars text
  pub lexes : Lexes front lexemes
  pub place : at ≡ length (encode_utf8_all front)
  pub furthest : (other after : List ℕ) (ls : List Lexeme) → other ++ after ≡ chars text → Lexes other ls
      → length (encode_utf8_all other) ≤ at

-- the list goes on with a colon and a star
abbrev pub begins_colon_star : List Token → Bool
begins_colon_star (token.Colon ∷ token.Star ∷ _) = true
begins_colon_star _ = false

-- a star that is no half of `*:*`
pub record HasLoneStar (ts : List Token) : Type 0 where
  pub before : List Token
  pub after : List Token
  pub parts : ts ≡ before ++ token.Star ∷ after
  pub not_first : IsTrue (not (begins_colon_star after))
  pub not_last : IsTrue (not (begins_colon_star (reverse before)))

abbrev pub IsLeftOut : List Token → Type 0
IsLeftOut ts = Contains ts token.Other ⊎ HasLoneStar ts

-- the text is spelled by lexemes that say these tokens
pub record Says (text : List ℕ) (ts : List Token) : Type 0 where
  pub short : length text ≤ MOST_TEXT_BYTES
  pub lexemes : List Lexeme
  pub lexes : Lexes (chars text) lexemes
  pub says : ts ≡ tokens_of lexemes

-- the text is written with these clauses
pub record Writes (text : List ℕ) (written : Written) : Type 0 where
  pub says : Says text (tokens written)
  pub kept : ¬ (IsLeftOut (tokens written))

-- over the most nodes, or more groups in each other than the parentheses that may be open and the outermost group
abbrev pub IsTooBig : Tree → Type 0
IsTooBig tree = (MOST_NODES < nodes tree) ⊎ (MOST_OPEN + 1 < depth tree)

-- The first refusal that holds of the text is this one.
abbrev pub IsFault : List ℕ → QueryFault → Type 0
IsFault text fault.TooLong = MOST_TEXT_BYTES < length text
IsFault text (fault.Lexical at) = (length text ≤ MOST_TEXT_BYTES) × (at < length text) × IsStuck text at
IsFault text fault.LeftOut = (ts : List Token) × Says text ts × IsLeftOut ts
IsFault text fault.Structure =
    (ts : List Token) × Says text ts × ¬ (IsLeftOut ts) × ((written : Written) → ¬ (tokens written ≡ ts))
IsFault text fault.NoWords = (written : Written) × Writes text written × IsTrue (lacks_words written)
IsFault text fault.TooBig = (written : Written) × Writes text written × IsTrue (not (lacks_words written))
    × IsTooBig (written_tree written)
IsFault text fault.NoMemory = Unit {0}

-- no refusal holds of the text
abbrev pub HasNoFault : List ℕ → Type 0
HasNoFault text = (f : QueryFault) → ¬ (f ≡ fault.NoMemory) → ¬ (IsFault text f)
