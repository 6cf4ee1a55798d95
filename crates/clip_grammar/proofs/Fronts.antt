-- What `lexeme_at` finds is spelled at the front, and what is spelled there is found.
use Rattle.std.proofs.Common.{◌≡◌, ℕ, Bool, true, false, cond, not, ◌&&◌, ◌||◌, eqb, List, [], ◌∷◌, ◌++◌, Option, Some}
use Rattle.std.proofs.Common.{None, refl, sym, ap, subst, ◌∙◌, arith, append_assoc, append-nil, codes}
use Rattle.std.specs.Prelude.{IfSome}
use Rattle.std.specs.List.{list_all}
use Rattle.std.proofs.lemmas.Bool.Decides.{nat_tests}
use Rattle.clip_grammar.specs.Lexemes.{Piece, Bare, Escape, Code, RangeEnd, BareEnd, QuotedEnd, Lexeme, Blank, Word}
use Rattle.clip_grammar.specs.Lexemes.{Quoted, Range, Sign, Foreign, spell, spell_end, spell_piece, spell_pieces}
use Rattle.clip_grammar.specs.Lexemes.{is_piece, is_lexeme, is_end, is_gap, is_word, is_to, is_bare}
use Rattle.clip_grammar.specs.Characters.{is_among, is_one_of, white_chars, is_white, word_char, first_char}
use Rattle.clip_grammar.specs.Characters.{quotable_char, end_char}
use Rattle.clip_grammar.specs.Steps.Lexer.{piece_at, pieces_at, close_quote, quoted_at, word_with, word_at, lexeme_at}
use Rattle.clip_grammar.specs.Steps.Lexer.{span_white, gap_at, to_at, bracket_at, close_end, bare_end, ending_at}
use Rattle.clip_grammar.specs.Steps.Lexer.{range_at, ◌>>=◌}
use Rattle.std.proofs.lemmas.Bool.{and_parts, and_from, not-true}
use Rattle.clip_grammar.proofs.Pieces.{chosen_true, chosen_false, if_chosen, piece_found, piece_again, pieces_again}
use Rattle.clip_grammar.proofs.Pieces.{pieces_exact, pieces_none, pieces_found, pieces_end}

-- ---- classes of characters

-- what holds of each of the characters holds of one among them
pub among_all : (P : ℕ → Bool) (cs : List ℕ) (c : ℕ) → list_all P cs ≡ true → is_among cs c ≡ true → P c ≡ true
among_all P [] c h k = cc
among_all P (d ∷ cs) c h k = at (eqb c d) refl k (among_all P cs c (and_parts (P d) (list_all P cs) h).1)
  where
    at : (b : Bool) → eqb c d ≡ b → (b || is_among cs c) ≡ true → (is_among cs c ≡ true → P c ≡ true) → P c ≡ true
    at true e k more = let same : d ≡ c = grind (arith, nat_tests) in
        subst (λ x. P x ≡ true) same (and_parts (P d) (list_all P cs) h).0
    at false e k more = more k

-- a character that passes a test is none of those that do not
pub apart : (P : ℕ → Bool) (cs : List ℕ) (c : ℕ) → list_all (λ d. not (P d)) cs ≡ true → P c ≡ true
    → is_among cs c ≡ false
apart P cs c h k = at (is_among cs c) refl
  where
    at : (b : Bool) → is_among cs c ≡ b → is_among cs c ≡ false
    at false e = e
    at true e = let bad : true ≡ false = sym k ∙ not-true _ (among_all (λ d. not (P d)) cs c h e) in cc

-- where the test takes no quote
no_quote : (P : ℕ → Bool) (c : ℕ) → P 34 ≡ false → P c ≡ true → eqb c 34 ≡ false
no_quote P c h k = at (eqb c 34) refl
  where
    at : (b : Bool) → eqb c 34 ≡ b → eqb c 34 ≡ false
    at false e = e
    at true e = let same : c ≡ 34 = grind (arith, nat_tests) in let bad : true ≡ false = sym k ∙ ap P same ∙ h in cc

-- ---- words

-- what begins with a piece that begins a word is read as a word
word_first : (p : Piece) (x : List ℕ) → is_piece first_char p ≡ true → lexeme_at (spell_piece p ++ x)
    ≡ word_at (spell_piece p ++ x)
unfolding lexeme_at
word_first (Bare c) x ok =
    chosen_false _ _ (apart first_char white_chars c refl ok)
    ∙ chosen_false _ _ (apart first_char (codes "+-!():") c refl ok)
    ∙ chosen_false _ _ (apart first_char (codes "~^/") c refl ok)
    ∙ chosen_false _ _ (no_quote first_char c refl ok) ∙ chosen_false _ _ (apart first_char (codes "[{") c refl ok)
word_first (Escape c) x ok = refl
word_first (Code a b c d) x ok = refl

-- a word is found with all that continues it
pub word_longer : (ps : List Piece) (rest : List ℕ) → is_lexeme (Word ps) ≡ true → lexeme_at (spell (Word ps) ++ rest)
    ≡ Some (Word (ps ++ (pieces_at word_char rest).0), (pieces_at word_char rest).1)
unfolding word_at
word_longer [] rest ok = cc
word_longer (p ∷ ps) rest ok =
    let parts = and_parts _ _ ok in
    let e : (spell_piece p ++ spell_pieces ps) ++ rest ≡ spell_piece p ++ (spell_pieces ps ++ rest) =
    append_assoc (spell_piece p) (spell_pieces ps) rest in
    ap lexeme_at e ∙ word_first p (spell_pieces ps ++ rest) parts.0
    ∙ ap word_with (piece_again first_char refl p (spell_pieces ps ++ rest) parts.0)
    ∙ ap (λ (v : List Piece × List ℕ). Some (Word (p ∷ v.0), v.1)) (pieces_again word_char refl ps rest parts.1)

word_again : (ps : List Piece) (rest : List ℕ) → is_lexeme (Word ps) ≡ true → piece_at word_char rest ≡ None
    → lexeme_at (spell (Word ps) ++ rest) ≡ Some (Word ps, rest)
word_again ps rest ok end =
    word_longer ps rest ok ∙ ap (λ (v : List Piece × List ℕ). Some (Word (ps ++ v.0), v.1))
    (pieces_none word_char rest end) ∙ ap (λ qs. Some (Word qs, rest)) (append-nil ps)

-- ---- quoted texts

quote_ends : (test : ℕ → Bool) (x : List ℕ) → test 34 ≡ false → piece_at test (34 ∷ x) ≡ None
unfolding piece_at
quote_ends test x h = chosen_false _ _ h

quoted_again : (ps : List Piece) (rest : List ℕ) → list_all (is_piece quotable_char) ps ≡ true
    → lexeme_at (spell (Quoted ps) ++ rest) ≡ Some (Quoted ps, rest)
unfolding lexeme_at quoted_at
quoted_again ps rest ok =
    let e : (spell_pieces ps ++ 34 ∷ []) ++ rest ≡ spell_pieces ps ++ 34 ∷ rest =
    append_assoc (spell_pieces ps) (34 ∷ []) rest in
    ap quoted_at e ∙ ap close_quote
    (pieces_exact quotable_char refl ps (34 ∷ rest) ok (quote_ends quotable_char rest refl))

-- ---- ranges

pub ends_at : (test : ℕ → Bool) (c : ℕ) (x : List ℕ) → eqb c 92 ≡ false → test c ≡ false → piece_at test (c ∷ x) ≡ None
unfolding piece_at
ends_at test c x h k = chosen_false _ _ h ∙ chosen_false _ _ k

pub no_backslash : (cs : List ℕ) (c : ℕ) → list_all (λ d. not (eqb d 92)) cs ≡ true → is_among cs c ≡ true
    → eqb c 92 ≡ false
no_backslash cs c h k = not-true _ (among_all (λ d. not (eqb d 92)) cs c h k)

-- a blank and a closing bracket end a bare end
white_ends : (c : ℕ) (x : List ℕ) → is_white c ≡ true → piece_at end_char (c ∷ x) ≡ None
white_ends c x h = ends_at end_char c x (no_backslash white_chars c refl h)
    (not-true _ (among_all (λ d. not (end_char d)) white_chars c refl h))

bracket_ends : (c : ℕ) (x : List ℕ) → is_one_of "]}" c ≡ true → piece_at end_char (c ∷ x) ≡ None
bracket_ends c x h = ends_at end_char c x (no_backslash (codes "]}") c refl h)
    (not-true _ (among_all (λ d. not (end_char d)) (codes "]}") c refl h))

-- white space is read to its end
span_again : (a x : List ℕ) → list_all is_white a ≡ true → span_white x ≡ ([], x) → span_white (a ++ x) ≡ (a, x)
unfolding span_white
span_again [] x h e = e
span_again (c ∷ a) x h e =
    let parts = and_parts (is_white c) (list_all is_white a) h in
    chosen_true {b = is_white c} _ ([], c ∷ a ++ x) parts.0
    ∙ ap (λ (v : List ℕ × List ℕ). (c ∷ v.0, v.1)) (span_again a x parts.1 e)

span_none : (c : ℕ) (x : List ℕ) → is_white c ≡ false → span_white (c ∷ x) ≡ ([], c ∷ x)
unfolding span_white
span_none c x h = chosen_false _ _ h

gap_white : (b : List ℕ) → is_gap b ≡ true → list_all is_white b ≡ true
gap_white [] h = cc
gap_white (c ∷ b) h = h

gap_again : (b x : List ℕ) → is_gap b ≡ true → span_white x ≡ ([], x) → gap_at (b ++ x) ≡ Some (b, x)
unfolding gap_at
gap_again b x h e = ap (λ (v : List ℕ × List ℕ). cond (is_gap v.0) (Some v) None) (span_again b x (gap_white b h) e)
    ∙ chosen_true _ _ h

to_again : (x : List ℕ) → to_at (codes "TO" ++ x) ≡ Some x
unfolding to_at
to_again x = refl

bracket_again : (c : ℕ) (x : List ℕ) → is_one_of "]}" c ≡ true → bracket_at (c ∷ x) ≡ Some (c, x)
unfolding bracket_at
bracket_again c x h = chosen_true _ _ h

-- a bare end begins with no quote, and each piece may go on
end_parts : (p : Piece) (ps : List Piece) → is_end (BareEnd (p ∷ ps)) ≡ true
    → (not (is_bare 34 p) ≡ true) × (list_all (is_piece end_char) (p ∷ ps) ≡ true)
end_parts p ps ok = and_parts (not (is_bare 34 p)) (list_all (is_piece end_char) (p ∷ ps))
    (and_parts _ (not (is_to (p ∷ ps))) ok).0

-- an end begins with no white space
end_starts : (e : RangeEnd) (x : List ℕ) → is_end e ≡ true → span_white (spell_end e ++ x) ≡ ([], spell_end e ++ x)
end_starts (BareEnd []) x ok = cc
end_starts (BareEnd (Bare c ∷ ps)) x ok =
    span_none c _ (apart end_char white_chars c refl (and_parts (end_char c) _ (end_parts (Bare c) ps ok).1).0)
end_starts (BareEnd (Escape c ∷ ps)) x ok = span_none 92 _ refl
end_starts (BareEnd (Code a b c d ∷ ps)) x ok = span_none 92 _ refl
end_starts (QuotedEnd ps) x ok = span_none 34 _ refl

bare_first : (p : Piece) (x : List ℕ) → not (is_bare 34 p) ≡ true → ending_at (spell_piece p ++ x)
    ≡ bare_end (pieces_at end_char (spell_piece p ++ x))
unfolding ending_at
bare_first (Bare c) x h = chosen_false _ _ (at (eqb c 34) refl)
  where
    at : (b : Bool) → eqb c 34 ≡ b → eqb c 34 ≡ false
    at false e = e
    at true e = let same : c ≡ 34 = grind (arith, nat_tests) in let bad : true ≡ false =
        ap (λ x. eqb 34 x) (sym same) ∙ not-true _ h in cc
bare_first (Escape c) x h = refl
bare_first (Code a b c d) x h = refl

ending_again : (e : RangeEnd) (x : List ℕ) → is_end e ≡ true → piece_at end_char x ≡ None
    → ending_at (spell_end e ++ x) ≡ Some (e, x)
unfolding ending_at
ending_again (BareEnd []) x ok end = cc
ending_again (BareEnd (p ∷ ps)) x ok end =
    let e : (spell_piece p ++ spell_pieces ps) ++ x ≡ spell_piece p ++ (spell_pieces ps ++ x) =
    append_assoc (spell_piece p) (spell_pieces ps) x in
    ap ending_at e ∙ bare_first p (spell_pieces ps ++ x) (end_parts p ps ok).0
    ∙ ap (λ y. bare_end (pieces_at end_char y)) (sym e)
    ∙ ap bare_end (pieces_exact end_char refl (p ∷ ps) x (end_parts p ps ok).1 end)
    ∙ chosen_true _ _ ok
ending_again (QuotedEnd []) x ok end = cc
ending_again (QuotedEnd (p ∷ ps)) x ok end =
    let e : (spell_pieces (p ∷ ps) ++ 34 ∷ []) ++ x ≡ spell_pieces (p ∷ ps) ++ 34 ∷ x =
    append_assoc (spell_pieces (p ∷ ps)) (34 ∷ []) x in
    ap (λ y. close_end (pieces_at quotable_char y)) e
    ∙ ap close_end (pieces_exact quotable_char refl (p ∷ ps) (34 ∷ x) ok (quote_ends quotable_char x refl))
    ∙ chosen_true _ _ ok

gap_ends : (b x : List ℕ) → is_gap b ≡ true → piece_at end_char (b ++ x) ≡ None
gap_ends [] x h = cc
gap_ends (c ∷ b) x h = white_ends c (b ++ x) (and_parts (is_white c) (list_all is_white b) h).0

spaces_end : (d : List ℕ) (c : ℕ) (x : List ℕ) → list_all is_white d ≡ true → is_one_of "]}" c ≡ true
    → piece_at end_char (d ++ c ∷ x) ≡ None
spaces_end [] c x h k = bracket_ends c x k
spaces_end (w ∷ d) c x h k = white_ends w (d ++ c ∷ x) (and_parts (is_white w) (list_all is_white d) h).0

range_again : (left : ℕ) (a : List ℕ) (low : RangeEnd) (b c : List ℕ) (high : RangeEnd) (d : List ℕ) (right : ℕ)
    (rest : List ℕ)
    → list_all is_white a ≡ true → is_end low ≡ true → is_gap b ≡ true → is_gap c ≡ true → is_end high ≡ true
    → list_all is_white d ≡ true → is_one_of "]}" right ≡ true
    → range_at left (a ++ (spell_end low ++ (b ++ (codes "TO" ++ (c ++ (spell_end high ++ (d ++ right ∷ rest)))))))
    ≡ Some (Range left a low b c high d right, rest)
unfolding range_at
range_again left a low b c high d right rest in_a in_low in_b in_c in_high in_d in_right =
    let x6 = d ++ right ∷ rest in
    let x5 = spell_end high ++ x6 in
    let x4 = c ++ x5 in
    let x3 = codes "TO" ++ x4 in
    let x2 = b ++ x3 in
    let e0 = span_again a (spell_end low ++ x2) in_a (end_starts low x2 in_low) in
    let e1 = ending_again low x2 in_low (gap_ends b x3 in_b) in
    let e2 = gap_again b x3 in_b (span_none 84 (79 ∷ x4) refl) in
    let e3 = to_again x4 in
    let e4 = gap_again c x5 in_c (end_starts high x6 in_high) in
    let e5 = ending_again high x6 in_high (spaces_end d right rest in_d in_right) in
    let e6 = span_again d (right ∷ rest) in_d
    (span_none right rest (apart (is_one_of "]}") white_chars right refl in_right)) in
    let e7 = bracket_again right rest in_right in
    rw (e0, e1, e2, e3, e4, e5, e6, e7) refl

-- what is spelled at the front is found there, where no word could go on
pub lexeme_again : (l : Lexeme) (rest : List ℕ) → is_lexeme l ≡ true
    → (is_word l ≡ true → piece_at word_char rest ≡ None) → lexeme_at (spell l ++ rest) ≡ Some (l, rest)
unfolding lexeme_at
lexeme_again (Blank c) rest ok ends = chosen_true _ _ ok
lexeme_again (Sign c) rest ok ends = chosen_false _ _ (apart (is_one_of "+-!():") white_chars c refl ok)
    ∙ chosen_true _ _ ok
lexeme_again (Foreign c) rest ok ends = chosen_false _ _ (apart (is_one_of "~^/") white_chars c refl ok)
    ∙ chosen_false _ _ (apart (is_one_of "~^/") (codes "+-!():") c refl ok) ∙ chosen_true _ _ ok
lexeme_again (Word ps) rest ok ends = word_again ps rest ok (ends refl)
lexeme_again (Quoted ps) rest ok ends = quoted_again ps rest ok
lexeme_again (Range left a low b c high d right) rest ok ends =
    let r7 = and_parts _ (is_one_of "]}" right) ok in
    let r6 = and_parts _ (list_all is_white d) r7.0 in
    let r5 = and_parts _ (is_end high) r6.0 in
    let r4 = and_parts _ (is_gap c) r5.0 in
    let r3 = and_parts _ (is_gap b) r4.0 in
    let r2 = and_parts _ (is_end low) r3.0 in
    let r1 = and_parts (is_one_of "[{" left) (list_all is_white a) r2.0 in
    let flat : spell (Range left a low b c high d right) ++ rest
    ≡ left ∷ (a ++ (spell_end low ++ (b ++ (codes "TO" ++ (c ++ (spell_end high ++ (d ++ right ∷ rest))))))) =
    simp append_assoc in
    ap lexeme_at flat
    ∙ chosen_false _ _ (apart (is_one_of "[{") white_chars left refl r1.0)
    ∙ chosen_false _ _ (apart (is_one_of "[{") (codes "+-!():") left refl r1.0)
    ∙ chosen_false _ _ (apart (is_one_of "[{") (codes "~^/") left refl r1.0)
    ∙ chosen_false _ _ (no_quote (is_one_of "[{") left refl r1.0) ∙ chosen_true _ _ r1.0
    ∙ range_again left a low b c high d right rest r1.1 r2.1 r3.1 r4.1 r5.1 r6.1 r7.1

-- ---- what is found is spelled

pub record LexemeFound (cs : List ℕ) (found : Lexeme × List ℕ) : Type 0 where
  pub is : is_lexeme found.0 ≡ true
  pub parts : spell found.0 ++ found.1 ≡ cs
  pub ends : is_word found.0 ≡ true → piece_at word_char found.1 ≡ None

bind_found : {A B : Type 0} (r : Option A) (f : A → Option B) (P : A → Type 0) (Q : B → Type 0) → IfSome r P
    → ((x : A) → P x → IfSome (f x) Q) → IfSome (r >>= f) Q
bind_found None f P Q h k = tt
bind_found (Some x) f P Q h k = k x h

abbrev pub IsSpan : List ℕ × List ℕ → List ℕ → Type 0
IsSpan v x = (list_all is_white v.0 ≡ true) × (v.0 ++ v.1 ≡ x)

pub span_found : (cs : List ℕ) → (list_all is_white (span_white cs).0 ≡ true)
    × ((span_white cs).0 ++ (span_white cs).1 ≡ cs)
unfolding span_white
span_found [] = (refl, refl)
span_found (c ∷ cs) = at (is_white c) refl (span_found cs)
  where
    at : (b : Bool) → is_white c ≡ b → IsSpan (span_white cs) cs
        → IsSpan (cond b (c ∷ (span_white cs).0, (span_white cs).1) ([], c ∷ cs)) (c ∷ cs)
    at true e h = (and_from _ _ e h.0, ap (λ x. c ∷ x) h.1)
    at false e h = (refl, refl)

abbrev GapFound : List ℕ → List ℕ × List ℕ → Type 0
GapFound cs g = (is_gap g.0 ≡ true) × (g.0 ++ g.1 ≡ cs)

gap_found : (cs : List ℕ) → IfSome (gap_at cs) (GapFound cs)
unfolding gap_at
gap_found cs = if_chosen (is_gap (span_white cs).0) _ _ _ (λ h. (h, (span_found cs).1)) (λ _. tt)

to_found : (cs : List ℕ) → IfSome (to_at cs) (λ x. codes "TO" ++ x ≡ cs)
unfolding to_at
to_found [] = tt
to_found (a ∷ []) = tt
to_found (a ∷ b ∷ cs) = if_chosen (eqb a 84 && eqb b 79) _ _ _ (λ h.
    let parts = and_parts (eqb a 84) (eqb b 79) h in
    let p = parts.0 in let q = parts.1 in
    let first : 84 ≡ a = grind (arith, nat_tests) in
    let second : 79 ≡ b = grind (arith, nat_tests) in
    ap (λ x. x ∷ 79 ∷ cs) first ∙ ap (λ x. a ∷ x ∷ cs) second) (λ _. tt)

abbrev BracketFound : List ℕ → ℕ × List ℕ → Type 0
BracketFound cs r = (is_one_of "]}" r.0 ≡ true) × (r.0 ∷ r.1 ≡ cs)

bracket_found : (cs : List ℕ) → IfSome (bracket_at cs) (BracketFound cs)
unfolding bracket_at
bracket_found [] = tt
bracket_found (c ∷ cs) = if_chosen (is_one_of "]}" c) _ _ _ (λ h. (h, refl)) (λ _. tt)

abbrev EndFound : List ℕ → RangeEnd × List ℕ → Type 0
EndFound cs e = (is_end e.0 ≡ true) × (spell_end e.0 ++ e.1 ≡ cs)

close_found : (cs : List ℕ) (v : List Piece × List ℕ) → spell_pieces v.0 ++ v.1 ≡ cs
    → IfSome (close_end v) (EndFound (34 ∷ cs))
close_found cs (ps, []) h = tt
close_found cs (ps, c ∷ rest) h = if_chosen (eqb c 34 && is_end (QuotedEnd ps)) _ _ _ (λ k.
    let parts = and_parts (eqb c 34) (is_end (QuotedEnd ps)) k in
    let p = parts.0 in
    let same : 34 ≡ c = grind (arith, nat_tests) in (
      parts.1,
      ap (λ x. 34 ∷ x) (append_assoc (spell_pieces ps) (34 ∷ []) rest
          ∙ ap (λ x. spell_pieces ps ++ x ∷ rest) same ∙ h),
    )) (λ _. tt)

ending_found : (cs : List ℕ) → IfSome (ending_at cs) (EndFound cs)
unfolding ending_at
ending_found [] = tt
ending_found (c ∷ cs) = if_chosen (eqb c 34) _ _ _
    (λ h. let same : 34 ≡ c = grind (arith, nat_tests) in
    subst (λ x. IfSome (close_end (pieces_at quotable_char cs)) (EndFound (x ∷ cs))) same
    (close_found cs (pieces_at quotable_char cs) (pieces_found quotable_char cs).parts))
    (λ h. if_chosen (is_end (BareEnd (pieces_at end_char (c ∷ cs)).0)) _ _ _
    (λ k. (k, (pieces_found end_char (c ∷ cs)).parts)) (λ _. tt))

range_found : (left : ℕ) (cs : List ℕ) → is_one_of "[{" left ≡ true
    → IfSome (range_at left cs) (LexemeFound (left ∷ cs))
unfolding range_at
range_found left cs in_left =
    let a = span_found cs in
    bind_found {A = RangeEnd × List ℕ} _ _ (EndFound (span_white cs).1) _ (ending_found (span_white cs).1)
    (λ low in_low.
    bind_found {A = List ℕ × List ℕ} _ _ (GapFound low.1) _ (gap_found low.1) (λ b in_b.
    bind_found {A = List ℕ} _ _ (λ x. codes "TO" ++ x ≡ b.1) _ (to_found b.1) (λ to in_to.
    bind_found {A = List ℕ × List ℕ} _ _ (GapFound to) _ (gap_found to) (λ c in_c.
    bind_found {A = RangeEnd × List ℕ} _ _ (EndFound c.1) _ (ending_found c.1) (λ high in_high.
    bind_found {A = ℕ × List ℕ} _ _ (BracketFound (span_white high.1).1) _ (bracket_found (span_white high.1).1)
    (λ right in_right.
    let d = span_found high.1 in
    let whole : (span_white cs).0
    ++ (spell_end low.0 ++ (b.0
    ++ (codes "TO" ++ (c.0 ++ (spell_end high.0 ++ ((span_white high.1).0 ++ right.0 ∷ right.1)))))) ≡ cs =
    rw (in_right.1, d.1, in_high.1, in_c.1, in_to, in_b.1, in_low.1, a.1) refl in
    record {
      is = and_from _ _ (and_from _ _
          (and_from _ _ (and_from _ _ (and_from _ _ (and_from _ _ (and_from _ _ in_left a.0) in_low.0) in_b.0) in_c.0)
          in_high.0) d.0) in_right.0;
      parts = simp append_assoc (ap (λ x. left ∷ x) whole);
      ends = λ w. cc;
    }))))))

quoted_found : (cs : List ℕ) (v : List Piece × List ℕ) → list_all (is_piece quotable_char) v.0 ≡ true
    → spell_pieces v.0 ++ v.1 ≡ cs → IfSome (close_quote v) (LexemeFound (34 ∷ cs))
quoted_found cs (ps, []) ok h = tt
quoted_found cs (ps, c ∷ rest) ok h = if_chosen (eqb c 34) _ _ _ (λ k.
    let same : 34 ≡ c = grind (arith, nat_tests) in
    record {
      is = ok;
      parts = ap (λ x. 34 ∷ x) (append_assoc (spell_pieces ps) (34 ∷ []) rest
          ∙ ap (λ x. spell_pieces ps ++ x ∷ rest) same ∙ h);
      ends = λ w. cc;
    }) (λ _. tt)

word_found : (cs : List ℕ) → IfSome (word_at cs) (LexemeFound cs)
unfolding word_at
word_found cs = at (piece_at first_char cs) (piece_found first_char cs)
  where
    at : (r : Option (Piece × List ℕ))
        → IfSome r (λ f. (is_piece first_char f.0 ≡ true) × (spell_piece f.0 ++ f.1 ≡ cs))
        → IfSome (word_with r) (LexemeFound cs)
    at None h = tt
    at (Some f) h = record {
      is = and_from _ _ h.0 (pieces_found word_char f.1).pieces;
      parts = append_assoc (spell_piece f.0) _ _ ∙ ap (λ x. spell_piece f.0 ++ x) (pieces_found word_char f.1).parts
          ∙ h.1;
      ends = λ w. pieces_end word_char f.1;
    }

pub lexeme_found : (cs : List ℕ) → IfSome (lexeme_at cs) (LexemeFound cs)
unfolding lexeme_at quoted_at
lexeme_found [] = tt
lexeme_found (c ∷ cs) =
    if_chosen (is_white c) _ _ _ (λ h. record { is = h; parts = refl; ends = λ w. cc }) (λ _.
    if_chosen (is_one_of "+-!():" c) _ _ _ (λ h. record { is = h; parts = refl; ends = λ w. cc }) (λ _.
    if_chosen (is_one_of "~^/" c) _ _ _ (λ h. record { is = h; parts = refl; ends = λ w. cc }) (λ _.
    if_chosen (eqb c 34) _ _ _ (λ h. let same : 34 ≡ c = grind (arith, nat_tests) in
    subst (λ x. IfSome (close_quote (pieces_at quotable_char cs)) (LexemeFound (x ∷ cs))) same
    (quoted_found cs (pieces_at quotable_char cs) (pieces_found quotable_char cs).pieces
    (pieces_found quotable_char cs).parts)) (λ _.
    if_chosen (is_one_of "[{" c) _ _ _ (λ h. range_found c cs h) (λ _. word_found (c ∷ cs))))))
