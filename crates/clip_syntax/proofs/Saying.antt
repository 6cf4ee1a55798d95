-- What the lexer says, step by step.
use Rattle.std.proofs.Common.{◌≡◌, ℕ, ◌<◌, List, [], ◌∷◌, ◌++◌, length, flat_map, Some, refl, sym, ap, subst, ◌∙◌}
use Rattle.std.specs.Option.{option_map}
use Rattle.std.proofs.lemmas.List.{flat_map_more}
use Rattle.clip_grammar.specs.Lexemes.{Lexeme}
use Rattle.clip_grammar.specs.Steps.Lexer.{lexeme_at}
use Rattle.clip_syntax.specs.Steps.Lexing.{with_tokens, IsLexing}
use Rattle.clip_grammar.specs.Tokens.{Token, tokens_of, tokens_of_lexeme}
use Rattle.clip_syntax.proofs.Glyphs.{mapped_some}
use Rattle.clip_grammar.proofs.Lexing.{finds_more}
use Rattle.clip_grammar.proofs.Refusals.{lexeme_shorter}

-- one more lexeme
pub lexing_more : (text : List ℕ) (ts : List Token) (mid : List ℕ) (us : List Token) (rest : List ℕ)
    → IsLexing text ts mid → option_map with_tokens (lexeme_at mid) ≡ Some (us, rest) → IsLexing text (ts ++ us) rest
lexing_more text ts mid us rest before e =
    let found = mapped_some with_tokens (lexeme_at mid) (us, rest) e in
    let says : tokens_of_lexeme found.0.0 ≡ us = ap (λ (v : List Token × List ℕ). v.0) found.2 in
    let left : found.0.1 ≡ rest = ap (λ (v : List Token × List ℕ). v.1) found.2 in
    record {
      lexemes = before.lexemes ++ found.0.0 ∷ [];
      finds = finds_more before.lexemes text mid found.0.0 rest before.finds (found.1
          ∙ ap (λ x. Some (found.0.0, x)) left);
      says = ap (λ x. x ++ us) before.says ∙ ap (λ x. tokens_of before.lexemes ++ x) (sym says)
          ∙ flat_map_more_nil tokens_of_lexeme before.lexemes found.0.0;
    }
  where
    flat_map_more_nil : (f : Lexeme → List Token) (ls : List Lexeme) (l : Lexeme)
        → flat_map f ls ++ f l ≡ flat_map f (ls ++ l ∷ [])
    flat_map_more_nil f ls l = flat_map_more f [] ls l

-- what is left is shorter
pub tokens_shorter : (cs : List ℕ) (us : List Token) (rest : List ℕ) → option_map with_tokens (lexeme_at cs)
    ≡ Some (us, rest) → length rest < length cs
tokens_shorter cs us rest e =
    let found = mapped_some with_tokens (lexeme_at cs) (us, rest) e in
    let left : found.0.1 ≡ rest = ap (λ (v : List Token × List ℕ). v.1) found.2 in
    subst (λ x. length x < length cs) left (lexeme_shorter cs found.0.0 found.0.1 (found.1 ∙ refl))
