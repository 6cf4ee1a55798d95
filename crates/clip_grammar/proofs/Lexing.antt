-- What the lexer finds is the one list of lexemes, or the longest front that has one.
use Rattle.std.proofs.Common.{◌≡◌, ℕ, Bool, true, false, not, ◌&&◌, ◌||◌, List, [], ◌∷◌, ◌++◌, length, Some, None, refl}
use Rattle.std.proofs.Common.{sym, ap, subst, ◌∙◌, encode_utf8_all, arith, append_assoc, append-nil, length-append}
use Rattle.std.proofs.Common.{codes, flat_map}
use Rattle.clip_grammar.specs.Lexemes.{Piece, Lexeme, Blank, Word, Quoted, Range, Sign, Foreign, Bare, Escape, Code}
use Rattle.clip_grammar.specs.Lexemes.{is_lexeme, is_word, are_lexemes, continues_word, is_piece, spell, spell_pieces}
use Rattle.clip_grammar.specs.Lexemes.{spell_piece, Lexes}
use Rattle.clip_grammar.specs.Characters.{is_one_of, white_chars, is_start, word_char, first_char}
use Rattle.std.specs.Str.{chars}
use Rattle.std.proofs.lemmas.Option.{none-some, same_Some}
use Rattle.std.proofs.lemmas.Str.{encodes-append}
use Rattle.std.proofs.lemmas.List.Concat.{flat_map-append}
use Rattle.clip_grammar.specs.Reading.{IsStuck}
use Rattle.clip_grammar.specs.Steps.Lexer.{piece_at, pieces_at, lexeme_at, Finds}
use Rattle.std.proofs.lemmas.Bool.{and_parts, and_from, not-true}
use Rattle.clip_grammar.proofs.Pieces.{if_some_at, piece_again}
use Rattle.clip_grammar.proofs.Fronts.{among_all, no_backslash, ends_at, LexemeFound, lexeme_found, lexeme_again}
use Rattle.clip_grammar.proofs.Fronts.{word_longer}

-- a lexeme that does not continue a word begins with no piece of one
no_piece : (l : Lexeme) (ls : List Lexeme) (x : List ℕ) → is_lexeme l ≡ true → continues_word (l ∷ ls) ≡ false
    → piece_at word_char (spell l ++ x) ≡ None
no_piece (Blank c) ls x ok h =
    ends_at word_char c x (no_backslash white_chars c refl ok)
    (not-true _ (among_all (λ d. not (word_char d)) white_chars c refl ok))
no_piece (Word ps) ls x ok h = cc
no_piece (Quoted ps) ls x ok h = ends_at word_char 34 _ refl refl
no_piece (Range left a low b c high d right) ls x ok h =
    let r7 = and_parts _ (is_one_of "]}" right) ok in
    let in_left : is_one_of "[{" left ≡ true =
    (and_parts (is_one_of "[{" left) _
    (and_parts _ _ (and_parts _ _ (and_parts _ _ (and_parts _ _ (and_parts _ _ r7.0).0).0).0).0).0).0 in
    ends_at word_char left _ (no_backslash (codes "[{") left refl in_left)
    (not-true _ (among_all (λ d. not (word_char d)) (codes "[{") left refl in_left))
no_piece (Sign c) ls x ok h =
    ends_at word_char c x (no_backslash (codes "+-!():") c refl ok) (at (is_one_of "+-" c) refl)
  where
    at : (b : Bool) → is_one_of "+-" c ≡ b → word_char c ≡ false
    at true e = let bad : true ≡ false = sym e ∙ h in cc
    at false e = neither (word_char c) refl
      where
        -- a sign that is a word's is plus or minus
        neither : (b : Bool) → word_char c ≡ b → word_char c ≡ false
        neither false k = k
        neither true k = let one : (not (word_char c) || is_one_of "+-" c) ≡ true =
            among_all (λ d. not (word_char d) || is_one_of "+-" d) (codes "+-!():") c refl ok in
            let bad : false ≡ true = sym (ap (λ v. not v || is_one_of "+-" c) k ∙ e) ∙ one in cc
no_piece (Foreign c) ls x ok h =
    ends_at word_char c x (no_backslash (codes "~^/") c refl ok)
    (not-true _ (among_all (λ d. not (word_char d)) (codes "~^/") c refl ok))

-- where the lexemes that follow do not continue a word, neither does their text
no_text : (ls : List Lexeme) (x : List ℕ) → are_lexemes ls ≡ true → continues_word ls ≡ false
    → piece_at word_char x ≡ None → piece_at word_char (flat_map spell ls ++ x) ≡ None
no_text [] x ok h e = e
no_text (l ∷ ls) x ok h e =
    let is = (and_parts (is_lexeme l) _ (and_parts _ (are_lexemes ls) ok).0).0 in
    ap (piece_at word_char) (append_assoc (spell l) (flat_map spell ls) x) ∙ no_piece l ls (flat_map spell ls ++ x) is h

parts_of : (l : Lexeme) (ls : List Lexeme) → are_lexemes (l ∷ ls) ≡ true
    → (is_lexeme l ≡ true) × ((is_word l && continues_word ls) ≡ false) × (are_lexemes ls ≡ true)
parts_of l ls ok =
    let outer = and_parts (is_lexeme l && not (is_word l && continues_word ls)) (are_lexemes ls) ok in
    let inner = and_parts (is_lexeme l) (not (is_word l && continues_word ls)) outer.0 in
    (inner.0, not-true _ inner.1, outer.1)

nil_none : piece_at word_char [] ≡ None
unfolding piece_at
nil_none = refl

word_then : (l : Lexeme) (ls : List Lexeme) → (is_word l && continues_word ls) ≡ false → is_word l ≡ true
    → continues_word ls ≡ false
word_then l ls h w = ap (λ b. b && continues_word ls) (sym w) ∙ h

-- lexemes that spell a text are those that are found in it
found_of_lexes : (ls : List Lexeme) → are_lexemes ls ≡ true → Finds (flat_map spell ls) ls []
found_of_lexes [] ok = refl
found_of_lexes (l ∷ ls) ok =
    let p = parts_of l ls ok in
    let ends : is_word l ≡ true → piece_at word_char (flat_map spell ls) ≡ None =
    λ w. ap (piece_at word_char) (sym (append-nil (flat_map spell ls)))
    ∙ no_text ls [] p.2 (word_then l ls p.1 w) nil_none in
    (flat_map spell ls, lexeme_again l (flat_map spell ls) p.0 ends, found_of_lexes ls p.2)

nothing : (m : Lexeme) (mid : List ℕ) → lexeme_at [] ≡ Some (m, mid) → ⊥
unfolding lexeme_at
nothing m mid e = cc

-- one text has one list of found lexemes
one_finding : (ls ms : List Lexeme) (cs : List ℕ) → Finds cs ls [] → Finds cs ms [] → ls ≡ ms
one_finding [] [] cs f g = refl
one_finding [] (m ∷ ms) cs f g = absurd (nothing m g.0 (ap lexeme_at (sym f) ∙ g.1))
one_finding (l ∷ ls) [] cs f g = absurd (nothing l f.0 (ap lexeme_at (sym g) ∙ f.1))
one_finding (l ∷ ls) (m ∷ ms) cs f g =
    let same : (l, f.0) ≡ (m, g.0) = same_Some _ _ (sym f.1 ∙ g.1) in
    let head : l ≡ m = ap (λ (v : Lexeme × List ℕ). v.0) same in
    let rest : g.0 ≡ f.0 = sym (ap (λ (v : Lexeme × List ℕ). v.1) same) in
    let tails : ls ≡ ms = one_finding ls ms f.0 f.2 (subst (λ x. Finds x ms []) rest g.2) in
    (λ i. head i ∷ tails i)

-- a text has at most one list of lexemes
pub one_lexing : (text : List ℕ) (ls ms : List Lexeme) → Lexes text ls → Lexes text ms → ls ≡ ms
one_lexing text ls ms a b =
    one_finding ls ms text (subst (λ x. Finds x ls []) a.whole (found_of_lexes ls a.lexemes))
    (subst (λ x. Finds x ms []) b.whole (found_of_lexes ms b.lexemes))

-- ---- how the lexer goes on, and where it stops

-- one more lexeme is found
pub finds_more : (ls : List Lexeme) (cs mid : List ℕ) (l : Lexeme) (rest : List ℕ) → Finds cs ls mid
    → lexeme_at mid ≡ Some (l, rest) → Finds cs (ls ++ l ∷ []) rest
finds_more [] cs mid l rest f e = (rest, ap lexeme_at f ∙ e, refl)
finds_more (k ∷ ls) cs mid l rest f e = (f.0, f.1, finds_more ls f.0 mid l rest f.2 e)

-- what is found spells the front
pub found_spells : (ls : List Lexeme) (cs rest : List ℕ) → Finds cs ls rest → flat_map spell ls ++ rest ≡ cs
found_spells [] cs rest f = sym f
found_spells (l ∷ ls) cs rest f =
    append_assoc (spell l) (flat_map spell ls) rest ∙ ap (λ x. spell l ++ x) (found_spells ls f.0 rest f.2)
    ∙ (if_some_at (LexemeFound cs) f.1 (lexeme_found cs)).parts

or_wider : (a b d : Bool) → (a || b) ≡ true → (b ≡ true → d ≡ true) → (a || d) ≡ true
or_wider true b d h k = refl
or_wider false b d h k = k h

-- a piece that goes on a word, of a lexeme that does
piece_of_word : (l : Lexeme) (ls : List Lexeme) (x : List ℕ) → is_lexeme l ≡ true → continues_word (l ∷ ls) ≡ true
    → piece_at word_char (spell l ++ x) ≡ None → ⊥
unfolding piece_at
piece_of_word (Blank c) ls x ok h e = cc
piece_of_word (Word []) ls x ok h e = cc
piece_of_word (Word (p ∷ ps)) ls x ok h e =
    let token_and_rest = sym (ap (piece_at word_char) (append_assoc (spell_piece p) (spell_pieces ps) x)) ∙ e in
    none-some _ (sym token_and_rest
    ∙ piece_again word_char refl p (spell_pieces ps ++ x) (wider p (and_parts (is_piece first_char p) _ ok).0))
  where
    wider : (p : Piece) → is_piece first_char p ≡ true → is_piece word_char p ≡ true
    wider (Bare c) k = or_wider (is_start c) (is_one_of "*?" c) (is_one_of "*?+-" c) k
        (among_all (is_one_of "*?+-") (codes "*?") c refl)
    wider (Escape c) k = k
    wider (Code a b c d) k = k
piece_of_word (Quoted ps) ls x ok h e = cc
piece_of_word (Range left a low b c high d right) ls x ok h e = cc
piece_of_word (Sign c) ls x ok h e =
    none-some _ (sym e ∙ piece_again word_char refl (Bare c) x (among_all word_char (codes "+-") c refl h))
piece_of_word (Foreign c) ls x ok h e = cc

-- what continues a word begins with a piece of one
continued : (ls : List Lexeme) (cs rest : List ℕ) → Finds cs ls rest → continues_word ls ≡ true
    → piece_at word_char cs ≡ None → ⊥
continued [] cs rest f h e = cc
continued (l ∷ ls) cs rest f h e =
    let found = if_some_at (LexemeFound cs) f.1 (lexeme_found cs) in
    piece_of_word l ls f.0 found.is h (ap (piece_at word_char) found.parts ∙ e)

-- what is found are lexemes in order
pub found_lexemes : (ls : List Lexeme) (cs rest : List ℕ) → Finds cs ls rest → are_lexemes ls ≡ true
found_lexemes [] cs rest f = refl
found_lexemes (l ∷ ls) cs rest f =
    let found = if_some_at (LexemeFound cs) f.1 (lexeme_found cs) in
    let others = found_lexemes ls f.0 rest f.2 in
    and_from _ _ (and_from _ _ found.is (ap not (at (is_word l) (continues_word ls) refl refl found.ends))) others
  where
    at : (b d : Bool) → is_word l ≡ b → continues_word ls ≡ d → (is_word l ≡ true → piece_at word_char f.0 ≡ None)
        → (is_word l && continues_word ls) ≡ false
    at false d e k ends = ap (λ v. v && continues_word ls) e
    at true false e k ends = ap (λ v. v && continues_word ls) e ∙ k
    at true true e k ends = absurd (continued ls f.0 rest f.2 k (ends e))

-- ---- no longer front has lexemes

begun : (m : Lexeme) (x : List ℕ) → is_lexeme m ≡ true → lexeme_at (spell m ++ x) ≡ None → ⊥
begun (Blank c) x ok e = let k = lexeme_again (Blank c) x ok (λ w. cc) in none-some _ (sym e ∙ k)
begun (Word ps) x ok e = let k = word_longer ps x ok in none-some _ (sym e ∙ k)
begun (Quoted ps) x ok e = let k = lexeme_again (Quoted ps) x ok (λ w. cc) in none-some _ (sym e ∙ k)
begun (Range left a low b c high d right) x ok e = let k =
    lexeme_again (Range left a low b c high d right) x ok (λ w. cc) in none-some _ (sym e ∙ k)
begun (Sign c) x ok e = let k = lexeme_again (Sign c) x ok (λ w. cc) in none-some _ (sym e ∙ k)
begun (Foreign c) x ok e = let k = lexeme_again (Foreign c) x ok (λ w. cc) in none-some _ (sym e ∙ k)

-- the same lexeme is found, and the rest goes on
abbrev IsFront : List ℕ → List ℕ → Type 0
IsFront xs ys = (more : List ℕ) × (xs ++ more ≡ ys)

same_front : (m l : Lexeme) (after mid : List ℕ) → lexeme_at (spell m ++ after) ≡ Some (m, after)
    → lexeme_at (spell m ++ after) ≡ Some (l, mid) → IsFront (spell m) (spell l)
same_front m l after mid a b =
    let found : (m, after) ≡ (l, mid) = same_Some _ _ (sym a ∙ b) in
    let is : m ≡ l = ap (λ (v : Lexeme × List ℕ). v.0) found in
    ([], append-nil (spell m) ∙ ap spell is)

-- the lexeme found is the longer one
front_of_one : (m l : Lexeme) (after mid : List ℕ) → is_lexeme m ≡ true → lexeme_at (spell m ++ after) ≡ Some (l, mid)
    → IsFront (spell m) (spell l)
front_of_one (Word ps) l after mid ok e =
    let found : (Word (ps ++ (pieces_at word_char after).0), (pieces_at word_char after).1) ≡ (l, mid) =
    same_Some _ _ (sym (word_longer ps after ok) ∙ e) in
    let is : Word (ps ++ (pieces_at word_char after).0) ≡ l = ap (λ (v : Lexeme × List ℕ). v.0) found in (
      spell_pieces (pieces_at word_char after).0,
      sym (flat_map-append spell_piece ps (pieces_at word_char after).0)
          ∙ ap spell is,
    )
front_of_one (Blank c) l after mid ok e = same_front (Blank c) l after mid (lexeme_again (Blank c) after ok (λ w. cc)) e
front_of_one (Quoted ps) l after mid ok e =
    same_front (Quoted ps) l after mid (lexeme_again (Quoted ps) after ok (λ w. cc)) e
front_of_one (Range left a low b c high d right) l after mid ok e =
    same_front (Range left a low b c high d right) l after mid
    (lexeme_again (Range left a low b c high d right) after ok (λ w. cc)) e
front_of_one (Sign c) l after mid ok e = same_front (Sign c) l after mid (lexeme_again (Sign c) after ok (λ w. cc)) e
front_of_one (Foreign c) l after mid ok e =
    same_front (Foreign c) l after mid (lexeme_again (Foreign c) after ok (λ w. cc)) e

pub longest : (ls ms : List Lexeme) (cs rest after : List ℕ) → Finds cs ls rest → lexeme_at rest ≡ None
    → are_lexemes ms ≡ true → flat_map spell ms ++ after ≡ cs → IsFront (flat_map spell ms) (flat_map spell ls)
longest ls [] cs rest after f e ok h = (flat_map spell ls, refl)
longest [] (m ∷ ms) cs rest after f e ok h =
    let p = parts_of m ms ok in
    absurd (begun m (flat_map spell ms ++ after) p.0
    (ap lexeme_at (sym (append_assoc (spell m) (flat_map spell ms) after) ∙ h ∙ f) ∙ e))
longest (l ∷ ls) (m ∷ []) cs rest after f e ok h =
    let p = parts_of m [] ok in
    let text : spell m ++ after ≡ cs = ap (λ x. x ++ after) (sym (append-nil (spell m))) ∙ h in
    let one = front_of_one m l after f.0 p.0 (ap lexeme_at text ∙ f.1) in (
      one.0 ++ flat_map spell ls,
      ap (λ x. x ++ (one.0 ++ flat_map spell ls)) (append-nil (spell m))
          ∙ sym (append_assoc (spell m) one.0 (flat_map spell ls)) ∙ ap (λ x. x ++ flat_map spell ls) one.1,
    )
longest (l ∷ ls) (m ∷ k ∷ ms) cs rest after f e ok h =
    let p = parts_of m (k ∷ ms) ok in
    let q = parts_of k ms p.2 in
    let x = flat_map spell (k ∷ ms) ++ after in
    let ends : is_word m ≡ true → piece_at word_char x ≡ None = λ w.
    ap (piece_at word_char) (append_assoc (spell k) (flat_map spell ms) after)
    ∙ no_piece k ms (flat_map spell ms ++ after) q.0 (word_then m (k ∷ ms) p.1 w) in
    let text : spell m ++ x ≡ cs = sym (append_assoc (spell m) (flat_map spell (k ∷ ms)) after) ∙ h in
    let found : (m, x) ≡ (l, f.0) = same_Some _ _ (sym (lexeme_again m x p.0 ends) ∙ ap lexeme_at text ∙ f.1) in
    let is : m ≡ l = ap (λ (v : Lexeme × List ℕ). v.0) found in
    let mid : x ≡ f.0 = ap (λ (v : Lexeme × List ℕ). v.1) found in
    let others = longest ls (k ∷ ms) f.0 rest after f.2 e p.2 mid in (
      others.0,
      append_assoc (spell m) (flat_map spell (k ∷ ms)) others.0 ∙ ap (λ y. spell m ++ y) others.1
          ∙ ap (λ y. spell y ++ flat_map spell ls) is,
    )

-- where the lexer stops
pub stuck : (text : List ℕ) (ls : List Lexeme) (rest : List ℕ) (at : ℕ) → Finds (chars text) ls rest
    → lexeme_at rest ≡ None → at ≡ length (encode_utf8_all (flat_map spell ls)) → IsStuck text at
stuck text ls rest at f e place = record {
  front = flat_map spell ls;
  rest = rest;
  lexemes = ls;
  parts = found_spells ls (chars text) rest f;
  lexes = record { lexemes = found_lexemes ls (chars text) rest f; whole = refl };
  place = place;
  furthest = λ other after ms h k.
      let front = longest ls ms (chars text) rest after f e k.lexemes (ap (λ x. x ++ after) k.whole ∙ h) in
      let whole : other ++ front.0 ≡ flat_map spell ls = ap (λ x. x ++ front.0) (sym k.whole) ∙ front.1 in
      omega (
        arith,
        place,
        ap length (sym (encodes-append other front.0) ∙ ap encode_utf8_all whole),
        length-append (encode_utf8_all other) (encode_utf8_all front.0),
      );
}

-- lexemes that are found to the end
pub lexed : (text : List ℕ) (ls : List Lexeme) → Finds text ls [] → Lexes text ls
lexed text ls f = record {
  lexemes = found_lexemes ls text [] f;
  whole = sym (append-nil (flat_map spell ls))
      ∙ found_spells ls text [] f;
}
