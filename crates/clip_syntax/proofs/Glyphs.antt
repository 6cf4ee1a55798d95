-- The glyphs of pieces, step by step.
use Rattle.std.proofs.Common.{◌≡◌, ℕ, Bool, true, false, cond, List, [], ◌∷◌, ◌++◌, map, Option, Some, None, refl, sym}
use Rattle.std.proofs.Common.{ap, ◌∙◌, append_assoc, append-nil}
use Rattle.std.specs.Option.{option_map}
use Rattle.clip_grammar.specs.Lexemes.{Code}
use Rattle.clip_grammar.specs.Characters.{is_code, code_value}
use Rattle.clip_grammar.specs.Steps.Lexer.{piece_at, pieces_at, code_at}
use Rattle.clip_syntax.specs.Steps.Glyphs.{glyph_and_rest, glyphs_after}
use Rattle.clip_grammar.specs.Tokens.{glyph_of}
use Rattle.clip_grammar.specs.declared.glyph.Glyph.{Glyph}
use Rattle.clip_grammar.specs.declared.glyph.Glyph.TheVariants.{Escaped}
use Rattle.clip_grammar.proofs.Pieces.{pieces_step, pieces_none}

pub mapped_some : {A B : Type 0} (f : A → B) (r : Option A) (y : B) → option_map f r ≡ Some y
    → (x : A) × (r ≡ Some x) × (f x ≡ y)
mapped_some f None y e = cc
mapped_some f (Some x) y e = (x, refl, cc)

pub mapped_none : {A B : Type 0} (f : A → B) (r : Option A) → option_map f r ≡ None → r ≡ None
mapped_none f None e = refl
mapped_none f (Some x) e = cc

-- a glyph more
pub glyph_step : (test : ℕ → Bool) (ms : List Glyph) (cs : List ℕ) (m : Glyph) (rest : List ℕ)
    → option_map glyph_and_rest (piece_at test cs) ≡ Some (m, rest)
    → glyphs_after (ms ++ m ∷ []) (pieces_at test rest) ≡ glyphs_after ms (pieces_at test cs)
glyph_step test ms cs m rest e =
    let found = mapped_some glyph_and_rest (piece_at test cs) (m, rest) e in
    let glyph : glyph_of found.0.0 ≡ m = ap (λ (v : Glyph × List ℕ). v.0) found.2 in
    let left : found.0.1 ≡ rest = ap (λ (v : Glyph × List ℕ). v.1) found.2 in
    let step = pieces_step test cs found.0.0 found.0.1 found.1 in
    ap (λ x. glyphs_after (ms ++ m ∷ []) (pieces_at test x)) (sym left)
    ∙ ap (λ x. (x, (pieces_at test found.0.1).1)) (append_assoc ms (m ∷ []) (map glyph_of (pieces_at test found.0.1).0)
    ∙ ap (λ x. ms ++ x ∷ map glyph_of (pieces_at test found.0.1).0) (sym glyph))
    ∙ ap (glyphs_after ms) (sym step)

pub glyph_end : (test : ℕ → Bool) (ms : List Glyph) (cs : List ℕ) → option_map glyph_and_rest (piece_at test cs) ≡ None
    → (ms, cs) ≡ glyphs_after ms (pieces_at test cs)
glyph_end test ms cs e =
    ap (λ x. (x, cs)) (sym (append-nil ms))
    ∙ ap (glyphs_after ms) (sym (pieces_none test cs (mapped_none glyph_and_rest (piece_at test cs) e)))

-- four digits that name a character, and others
pub code_some : (cs : List ℕ) (a b c d : ℕ) (rest : List ℕ) (v : ℕ) → cs ≡ a ∷ b ∷ c ∷ d ∷ rest
    → Some v ≡ cond (is_code a b c d) (Some (code_value a b c d)) None
    → Some (Escaped v, rest) ≡ option_map glyph_and_rest (code_at cs)
code_some cs a b c d rest v e h = at (is_code a b c d) h ∙ ap (λ x. option_map glyph_and_rest (code_at x)) (sym e)
  where
    at : (t : Bool) → Some v ≡ cond t (Some (code_value a b c d)) None
        → Some (Escaped v, rest) ≡ option_map glyph_and_rest (cond t (Some (Code a b c d, rest)) None)
    at true h = ap (option_map (λ x. (Escaped x, rest))) h
    at false h = cc

pub code_none : (cs : List ℕ) (a b c d : ℕ) (rest : List ℕ) → cs ≡ a ∷ b ∷ c ∷ d ∷ rest
    → None ≡ cond (is_code a b c d) (Some (code_value a b c d)) None → None ≡ option_map glyph_and_rest (code_at cs)
code_none cs a b c d rest e h = at (is_code a b c d) h ∙ ap (λ x. option_map glyph_and_rest (code_at x)) (sym e)
  where
    at : (t : Bool) → None ≡ cond t (Some (code_value a b c d)) None
        → None ≡ option_map glyph_and_rest (cond t (Some (Code a b c d, rest)) None)
    at true h = cc
    at false h = refl
