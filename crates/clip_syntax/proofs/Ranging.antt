-- The parts of a range, as the code reads them.
use Rattle.std.proofs.Common.{◌≡◌, ◌≢◌, ℕ, Bool, true, false, cond, not, ◌&&◌, eqb, List, [], ◌∷◌, ◌++◌, map, Option}
use Rattle.std.proofs.Common.{Some, None, refl, sym, ap, ◌∙◌, length, arith, codes, append_assoc}
use Rattle.std.specs.Option.{option_map}
use Rattle.std.specs.List.{list_all}
use Rattle.std.proofs.lemmas.Bool.Decides.{nat_tests}
use Rattle.clip_grammar.specs.Lexemes.{Piece, Bare, Escape, Code, RangeEnd, BareEnd, QuotedEnd, spell_piece}
use Rattle.clip_grammar.specs.Lexemes.{spell_pieces, is_piece, is_gap, is_to, is_bare}
use Rattle.clip_grammar.specs.Characters.{is_white, quotable_char, end_char}
use Rattle.clip_grammar.specs.Steps.Lexer.{◌>>=◌, span_white, gap_at, to_at, bracket_at, ending_at, range_at, close_end}
use Rattle.clip_grammar.specs.Steps.Lexer.{bare_end, pieces_at}
use Rattle.clip_grammar.specs.Tokens as tokens
use Rattle.clip_grammar.specs.Tokens.{End, Free, Range, glyph_of, is_spelled, text_of, closing, end_token}
use Rattle.std.proofs.lemmas.Bool.{and_from}
use Rattle.clip_grammar.proofs.Pieces.{chosen_true, chosen_false, AreFound, pieces_found}
use Rattle.clip_grammar.proofs.Fronts.{span_found}
use Rattle.clip_syntax.specs.Steps.Ends.{free_text, end_text, end_text_and_rest, end_with, quoted_end_of, bare_end_of}
use Rattle.clip_syntax.specs.Steps.Ends.{range_tokens}
use Rattle.clip_syntax.specs.Steps.Glyphs.{glyphs_after}
use Rattle.clip_syntax.specs.Steps.Lexing.{with_tokens}

pub gap_nil : (cs : List ℕ) → length cs ≡ 0 → option_map (λ (found : List ℕ × List ℕ). found.1) (gap_at cs) ≡ None
unfolding gap_at span_white
gap_nil [] h = refl
gap_nil (c ∷ cs) h = absurd (omega arith)

pub gap_some : (c : ℕ) (cs : List ℕ) → is_white c ≡ true
    → option_map (λ (found : List ℕ × List ℕ). found.1) (gap_at (c ∷ cs)) ≡ Some (span_white cs).1
unfolding gap_at span_white
gap_some c cs h =
    let e : span_white (c ∷ cs) ≡ (c ∷ (span_white cs).0, (span_white cs).1) = chosen_true _ _ h in
    ap (λ (v : List ℕ × List ℕ). option_map (λ (found : List ℕ × List ℕ). found.1) (cond (is_gap v.0) (Some v) None)) e
    ∙ ap (λ b. option_map (λ (found : List ℕ × List ℕ). found.1)
    (cond b (Some (c ∷ (span_white cs).0, (span_white cs).1)) None)) (and_from _ _ h (span_found cs).0)

pub gap_none : (c : ℕ) (cs : List ℕ) → is_white c ≡ false
    → option_map (λ (found : List ℕ × List ℕ). found.1) (gap_at (c ∷ cs)) ≡ None
unfolding gap_at span_white
gap_none c cs h =
    let e : span_white (c ∷ cs) ≡ ([], c ∷ cs) = chosen_false _ _ h in
    ap (λ (v : List ℕ × List ℕ). option_map (λ (found : List ℕ × List ℕ). found.1) (cond (is_gap v.0) (Some v) None)) e

-- ---- ends

-- a quoted end, by its glyphs
close_text : (v : List Piece × List ℕ) → list_all (is_piece quotable_char) v.0 ≡ true
    → option_map end_text_and_rest (close_end v) ≡ quoted_end_of (glyphs_after [] v)
close_text (ps, []) ok = refl
close_text ([], c ∷ cs) ok = at (eqb c 34)
  where
    at : (b : Bool) → option_map end_text_and_rest (cond (b && false) (Some (QuotedEnd [], cs)) None) ≡ None
    at true = refl
    at false = refl
close_text (p ∷ ps, c ∷ cs) ok = at (eqb c 34) (list_all (is_piece quotable_char) (p ∷ ps)) ok
  where
    at : (b d : Bool) → d ≡ true → option_map end_text_and_rest (cond (b && d) (Some (QuotedEnd (p ∷ ps), cs)) None)
        ≡ cond b (Some (Some (text_of (map glyph_of (p ∷ ps))), cs)) None
    at true true ok = refl
    at true false ok = cc
    at false d ok = refl

pub ending_quoted : (text : List ℕ) (cs : List ℕ) → text ≡ 34 ∷ cs
    → quoted_end_of (glyphs_after [] (pieces_at quotable_char cs)) ≡ option_map end_text_and_rest (ending_at text)
unfolding ending_at
ending_quoted text cs e = sym (close_text (pieces_at quotable_char cs) (pieces_found quotable_char cs).pieces)
    ∙ ap (λ x. option_map end_text_and_rest (ending_at x)) (sym e)

pub ending_nil : (cs : List ℕ) → length cs ≡ 0 → option_map end_text_and_rest (ending_at cs) ≡ None
unfolding ending_at
ending_nil [] h = refl
ending_nil (c ∷ cs) h = absurd (omega arith)

-- the glyphs say whether the pieces are TO
bare_glyph : (c : ℕ) (p : Piece) → is_bare c p ≡ tokens.is_bare c (glyph_of p)
bare_glyph c (Bare d) = refl
bare_glyph c (Escape d) = refl
bare_glyph c (Code a b d e) = refl

is_to_glyphs : (ps : List Piece) → is_to ps ≡ is_spelled (codes "TO") (map glyph_of ps)
is_to_glyphs [] = refl
is_to_glyphs (p ∷ []) = at (tokens.is_bare 84 (glyph_of p))
  where
    at : (b : Bool) → false ≡ (b && false)
    at true = refl
    at false = refl
is_to_glyphs (p ∷ q ∷ []) = at (is_bare 84 p) (is_bare 79 q) _ _ (bare_glyph 84 p) (bare_glyph 79 q)
  where
    at : (a b c d : Bool) → a ≡ c → b ≡ d → (a && b) ≡ (c && (d && true))
    at a b true true e f = ap (λ x. x && b) e ∙ f
    at a b true false e f = ap (λ x. x && b) e ∙ f
    at a b false d e f = ap (λ x. x && b) e
is_to_glyphs (p ∷ q ∷ r ∷ ps) = at (tokens.is_bare 84 (glyph_of p)) (tokens.is_bare 79 (glyph_of q))
  where
    at : (a b : Bool) → false ≡ (a && (b && false))
    at true true = refl
    at true false = refl
    at false b = refl

-- no bare end begins with a quote
no_first_quote : (c : ℕ) (cs : List ℕ) (p : Piece) (x : List ℕ) → eqb c 34 ≡ false → spell_piece p ++ x ≡ c ∷ cs
    → not (is_bare 34 p) ≡ true
no_first_quote c cs (Bare d) x h e = at (eqb 34 d) refl
  where
    at : (b : Bool) → eqb 34 d ≡ b → not b ≡ true
    at false k = refl
    at true k =
        let same : d ≡ c = cc in
        let quote : 34 ≡ d = grind (arith, nat_tests) in
        let bad : true ≡ false = ap (λ y. eqb y 34) (quote ∙ same) ∙ h in cc
no_first_quote c cs (Escape d) x h e = refl
no_first_quote c cs (Code a b d f) x h e = refl

bare_text : (c : ℕ) (cs : List ℕ) (v : List Piece × List ℕ) → eqb c 34 ≡ false → AreFound end_char (c ∷ cs) v
    → option_map end_text_and_rest (bare_end v) ≡ bare_end_of (glyphs_after [] v)
bare_text c cs ([], rest) h found = refl
bare_text c cs (p ∷ ps, rest) h found =
    at (not (is_bare 34 p)) (list_all (is_piece end_char) (p ∷ ps)) (is_to (p ∷ ps)) _
    (no_first_quote c cs p (spell_pieces ps ++ rest) h (sym (append_assoc (spell_piece p) (spell_pieces ps) rest)
    ∙ found.parts)) found.pieces (is_to_glyphs (p ∷ ps))
  where
    at : (a b t m : Bool) → a ≡ true → b ≡ true → t ≡ m
        → option_map end_text_and_rest (cond (a && b && not t) (Some (BareEnd (p ∷ ps), rest)) None)
        ≡ cond m None (Some (free_text (map glyph_of (p ∷ ps)), rest))
    at a b t m e f g = ap (λ x.
        option_map end_text_and_rest (cond (x && b && not t) (Some (BareEnd (p ∷ ps), rest)) None)) e
        ∙ ap (λ x. option_map end_text_and_rest (cond (x && not t) (Some (BareEnd (p ∷ ps), rest)) None)) f
        ∙ ap (λ x. option_map end_text_and_rest (cond (not x) (Some (BareEnd (p ∷ ps), rest)) None)) g
        ∙ last m
      where
        last : (m : Bool) → option_map end_text_and_rest (cond (not m) (Some (BareEnd (p ∷ ps), rest)) None)
            ≡ cond m None (Some (free_text (map glyph_of (p ∷ ps)), rest))
        last true = refl
        last false = refl

pub ending_bare : (text : List ℕ) (c : ℕ) (cs : List ℕ) → text ≡ c ∷ cs → c ≢ 34
    → bare_end_of (glyphs_after [] (pieces_at end_char text)) ≡ option_map end_text_and_rest (ending_at text)
unfolding ending_at
ending_bare text c cs e other =
    let h : eqb c 34 ≡ false = at (eqb c 34) refl in
    ap (λ x. bare_end_of (glyphs_after [] (pieces_at end_char x))) e
    ∙ sym (bare_text c cs (pieces_at end_char (c ∷ cs)) h (pieces_found end_char (c ∷ cs)))
    ∙ ap (option_map end_text_and_rest) (sym (chosen_false {b = eqb c 34} _ _ h))
    ∙ ap (λ x. option_map end_text_and_rest (ending_at x)) (sym e)
  where
    at : (b : Bool) → eqb c 34 ≡ b → eqb c 34 ≡ false
    at false k = k
    at true k = let same : c ≡ 34 = grind (arith, nat_tests) in absurd (other same)

-- ---- ranges

-- what is said of a chain, from what is said of its first step
step_map : {A B C D : Type 0} (g : B → C) (h : A → D) (x : Option A) (f : A → Option B) (k : D → Option C)
    → ((v : A) → option_map g (f v) ≡ k (h v)) → option_map g (x >>= f) ≡ (option_map h x >>= k)
step_map g h None f k e = refl
step_map g h (Some v) f k e = e v

end_is : (closed : Bool) (e : RangeEnd) → end_token closed e ≡ end_with closed (end_text e)
end_is closed (QuotedEnd ps) = refl
end_is closed (BareEnd ps) = at (is_spelled (codes "*") (map glyph_of ps))
  where
    at : (b : Bool) → cond b Free (closing closed (text_of (map glyph_of ps)))
        ≡ end_with closed (cond b None (Some (text_of (map glyph_of ps))))
    at true = refl
    at false = refl

pub range_is : (left : ℕ) (cs : List ℕ) → range_tokens left cs ≡ option_map with_tokens (range_at left cs)
unfolding range_tokens range_at
range_is left cs = sym (
    step_map with_tokens end_text_and_rest (ending_at (span_white cs).1) _ _ (λ low.
    step_map with_tokens (λ (gap : List ℕ × List ℕ). gap.1) (gap_at low.1) _ _ (λ b.
    step_same with_tokens (to_at b.1) _ _ (λ to.
    step_map with_tokens (λ (gap : List ℕ × List ℕ). gap.1) (gap_at to) _ _ (λ c.
    step_map with_tokens end_text_and_rest (ending_at c.1) _ _ (λ high.
    step_same with_tokens (bracket_at (span_white high.1).1) _ _ (λ right.
    ap (λ (v : End × End). Some (Range v.0 v.1 ∷ [], right.1))
    (λ i. (end_is (eqb left 91) low.0 i, end_is (eqb right.0 93) high.0 i)))))))))
  where
    step_same : {A B C : Type 0} (g : B → C) (x : Option A) (f : A → Option B) (k : A → Option C)
        → ((v : A) → option_map g (f v) ≡ k v) → option_map g (x >>= f) ≡ (x >>= k)
    step_same g None f k e = refl
    step_same g (Some v) f k e = e v
