-- What `piece_at` and `pieces_at` find is spelled at the front, and what is spelled there is found.
use Rattle.std.proofs.Common.{◌≡◌, ℕ, zero, suc, ◌<◌, ◌≤◌, Bool, true, false, cond, not, eqb, List, [], ◌∷◌, ◌++◌}
use Rattle.std.proofs.Common.{length, Option, Some, None, refl, sym, ap, subst, ◌∙◌, arith, append_assoc, append-nil}
use Rattle.std.proofs.Common.{length-append}
use Rattle.std.specs.Prelude.{IfSome}
use Rattle.std.specs.List.{list_all}
use Rattle.std.proofs.lemmas.Bool.{and_from, and_parts, not-true}
use Rattle.std.proofs.lemmas.Bool.Decides.{nat_tests}
use Rattle.clip_grammar.specs.Lexemes.{Piece, Bare, Escape, Code, spell_piece, spell_pieces, is_piece}
use Rattle.clip_grammar.specs.Characters.{is_code}
use Rattle.clip_grammar.specs.Steps.Lexer.{code_at, escape_at, piece_at, go_on, pieces_within, pieces_at}

-- ---- small cases

-- a choice, where the test went this way
pub chosen_true : {A : Type 0} {b : Bool} (x y : A) → b ≡ true → cond b x y ≡ x
chosen_true {b = b} x y h = ap (λ v. cond v x y) h

pub chosen_false : {A : Type 0} {b : Bool} (x y : A) → b ≡ false → cond b x y ≡ y
chosen_false {b = b} x y h = ap (λ v. cond v x y) h

-- a fact for the value, if any, of a choice
pub if_chosen : {A : Type 0} (b : Bool) (x y : Option A) (P : A → Type 0) → (b ≡ true → IfSome x P)
    → (b ≡ false → IfSome y P) → IfSome (cond b x y) P
if_chosen true x y P p q = p refl
if_chosen false x y P p q = q refl

pub if_some_at : {A : Type 0} (P : A → Type 0) {r : Option A} {x : A} → r ≡ Some x → IfSome r P → P x
if_some_at P e h = subst (λ r. IfSome r P) e h

pub if_some_map : {A : Type 0} (r : Option A) (P Q : A → Type 0) → IfSome r P → ((x : A) → P x → Q x) → IfSome r Q
if_some_map None P Q h f = tt
if_some_map (Some x) P Q h f = f x h

-- ---- one piece

-- what is found is a piece, and the text is its spelling and what is left
abbrev pub IsFound : (ℕ → Bool) → List ℕ → Piece × List ℕ → Type 0
IsFound test cs found = (is_piece test found.0 ≡ true) × (spell_piece found.0 ++ found.1 ≡ cs)

code_found : (test : ℕ → Bool) (cs : List ℕ) → IfSome (code_at cs) (IsFound test (92 ∷ 117 ∷ cs))
code_found test [] = tt
code_found test (a ∷ []) = tt
code_found test (a ∷ b ∷ []) = tt
code_found test (a ∷ b ∷ c ∷ []) = tt
code_found test (a ∷ b ∷ c ∷ d ∷ cs) = if_chosen (is_code a b c d) _ _ _ (λ h. (h, refl)) (λ _. tt)

escape_found : (test : ℕ → Bool) (cs : List ℕ) → IfSome (escape_at cs) (IsFound test (92 ∷ cs))
unfolding escape_at
escape_found test [] = tt
escape_found test (c ∷ cs) = if_chosen (eqb c 117) _ _ _
    (λ h. let e : 117 ≡ c = grind (arith, nat_tests) in
    subst (λ x. IfSome (code_at cs) (IsFound test (92 ∷ x ∷ cs))) e (code_found test cs))
    (λ h. (ap not h, refl))

pub piece_found : (test : ℕ → Bool) (cs : List ℕ) → IfSome (piece_at test cs) (IsFound test cs)
unfolding piece_at
piece_found test [] = tt
piece_found test (c ∷ cs) = if_chosen (eqb c 92) _ _ _
    (λ h. let e : 92 ≡ c = grind (arith, nat_tests) in
    subst (λ x. IfSome (escape_at cs) (IsFound test (x ∷ cs))) e (escape_found test cs))
    (λ h. if_chosen (test c) _ _ _ (λ k. (k, refl)) (λ _. tt))

-- what is spelled is found, where the test takes no backslash
pub piece_again : (test : ℕ → Bool) → test 92 ≡ false → (p : Piece) (rest : List ℕ) → is_piece test p ≡ true
    → piece_at test (spell_piece p ++ rest) ≡ Some (p, rest)
unfolding piece_at escape_at
piece_again test quiet (Bare c) rest ok =
    let other : eqb c 92 ≡ false = backslash (eqb c 92) refl in
    chosen_false _ _ other ∙ chosen_true _ _ ok
  where
    backslash : (b : Bool) → eqb c 92 ≡ b → b ≡ false
    backslash false e = refl
    backslash true e = let same : c ≡ 92 = grind (arith, nat_tests) in let bad : true ≡ false =
        sym ok ∙ ap test same ∙ quiet in cc
piece_again test quiet (Escape c) rest ok = chosen_false _ _ (not-true _ ok)
piece_again test quiet (Code a b c d) rest ok = chosen_true _ _ ok

pub spelled : (p : Piece) → 0 < length (spell_piece p)
spelled (Bare c) = omega arith
spelled (Escape c) = omega arith
spelled (Code a b c d) = omega arith

-- what is left is shorter
pub piece_shorter : (test : ℕ → Bool) (cs : List ℕ) → IfSome (piece_at test cs) (λ found. length found.1 < length cs)
piece_shorter test cs = if_some_map (piece_at test cs) _ _ (piece_found test cs) (λ found h.
    let s : 0 < length (spell_piece found.0) = spelled found.0 in
    omega (arith, ap length h.1, length-append (spell_piece found.0) found.1))

-- ---- several pieces

same_go_on : (f g : List ℕ → List Piece × List ℕ) (cs : List ℕ) (r : Option (Piece × List ℕ))
    → IfSome r (λ found. f found.1 ≡ g found.1) → go_on f cs r ≡ go_on g cs r
same_go_on f g cs None h = refl
same_go_on f g cs (Some found) h = ap (λ (v : List Piece × List ℕ). (found.0 ∷ v.0, v.1)) h

-- beyond the length of the text, the bound says nothing
pub bound_free : (test : ℕ → Bool) (n m : ℕ) (cs : List ℕ) → length cs ≤ n → length cs ≤ m
    → pieces_within test n cs ≡ pieces_within test m cs
unfolding pieces_within piece_at
bound_free test zero zero cs h k = refl
bound_free test zero (suc m) [] h k = refl
bound_free test zero (suc m) (c ∷ cs) h k = absurd (omega arith)
bound_free test (suc n) zero [] h k = refl
bound_free test (suc n) zero (c ∷ cs) h k = absurd (omega arith)
bound_free test (suc n) (suc m) cs h k =
    same_go_on _ _ cs (piece_at test cs)
    (if_some_map (piece_at test cs) _ _ (piece_shorter test cs)
    (λ found s. bound_free test n m found.1 (omega arith) (omega arith)))

-- what is found are pieces, and the text is their spelling and what is left
pub record AreFound (test : ℕ → Bool) (cs : List ℕ) (found : List Piece × List ℕ) : Type 0 where
  pub pieces : list_all (is_piece test) found.0 ≡ true
  pub parts : spell_pieces found.0 ++ found.1 ≡ cs

pub within_found : (test : ℕ → Bool) (n : ℕ) (cs : List ℕ) → AreFound test cs (pieces_within test n cs)
unfolding pieces_within
within_found test zero cs = record { pieces = refl; parts = refl }
within_found test (suc n) cs = at (piece_at test cs) (piece_found test cs) (λ rest. within_found test n rest)
  where
    at : (r : Option (Piece × List ℕ)) → IfSome r (IsFound test cs)
        → ((rest : List ℕ) → AreFound test rest (pieces_within test n rest))
        → AreFound test cs (go_on (pieces_within test n) cs r)
    at None h more = record { pieces = refl; parts = refl }
    at (Some found) h more = record {
      pieces = and_from _ _ h.0 (more found.1).pieces;
      parts = append_assoc (spell_piece found.0) _ _ ∙ ap (λ x. spell_piece found.0 ++ x) (more found.1).parts ∙ h.1;
    }

-- no piece follows
pub within_ends : (test : ℕ → Bool) (n : ℕ) (cs : List ℕ) → length cs ≤ n → piece_at test (pieces_within test n cs).1
    ≡ None
unfolding pieces_within piece_at
within_ends test zero [] h = refl
within_ends test zero (c ∷ cs) h = absurd (omega arith)
within_ends test (suc n) cs h = at (piece_at test cs) refl (piece_shorter test cs) (λ rest k. within_ends test n rest k)
  where
    at : (r : Option (Piece × List ℕ)) → piece_at test cs ≡ r → IfSome r (λ found. length found.1 < length cs)
        → ((rest : List ℕ) → length rest ≤ n → piece_at test (pieces_within test n rest).1 ≡ None)
        → piece_at test (go_on (pieces_within test n) cs r).1 ≡ None
    at None e s more = e
    at (Some found) e s more = more found.1 (omega arith)

-- pieces that are spelled at the front are found, and then what follows
pub within_again : (test : ℕ → Bool) → test 92 ≡ false → (ps : List Piece) (rest : List ℕ) (n : ℕ)
    → list_all (is_piece test) ps ≡ true → length (spell_pieces ps ++ rest) ≤ n
    → pieces_within test n (spell_pieces ps ++ rest) ≡ (ps ++ (pieces_at test rest).0, (pieces_at test rest).1)
unfolding pieces_within pieces_at
within_again test quiet [] rest n ok h = bound_free test n (length rest) rest h (omega arith)
within_again test quiet (p ∷ ps) rest zero ok h =
    absurd (let s : 0 < length (spell_piece p) = spelled p in
    omega (
      arith,
      length-append (spell_piece p) (spell_pieces ps),
      length-append (spell_piece p ++ spell_pieces ps) rest,
    ))
within_again test quiet (p ∷ ps) rest (suc n) ok h =
    let parts = and_parts (is_piece test p) (list_all (is_piece test) ps) ok in
    let s : 0 < length (spell_piece p) = spelled p in
    let e : (spell_piece p ++ spell_pieces ps) ++ rest ≡ spell_piece p ++ (spell_pieces ps ++ rest) =
    append_assoc (spell_piece p) (spell_pieces ps) rest in
    let shorter : length (spell_pieces ps ++ rest) ≤ n =
    omega (arith, ap length e, length-append (spell_piece p) (spell_pieces ps ++ rest)) in
    ap (λ x. go_on (pieces_within test n) x (piece_at test x)) e
    ∙ ap (go_on (pieces_within test n) (spell_piece p ++ (spell_pieces ps ++ rest)))
    (piece_again test quiet p (spell_pieces ps ++ rest) parts.0)
    ∙ ap (λ (v : List Piece × List ℕ). (p ∷ v.0, v.1)) (within_again test quiet ps rest n parts.1 shorter)

pub pieces_again : (test : ℕ → Bool) → test 92 ≡ false → (ps : List Piece) (rest : List ℕ)
    → list_all (is_piece test) ps ≡ true
    → pieces_at test (spell_pieces ps ++ rest) ≡ (ps ++ (pieces_at test rest).0, (pieces_at test rest).1)
unfolding pieces_at
pieces_again test quiet ps rest ok = within_again test quiet ps rest _ ok (omega arith)

pub pieces_none : (test : ℕ → Bool) (rest : List ℕ) → piece_at test rest ≡ None → pieces_at test rest ≡ ([], rest)
unfolding pieces_at pieces_within
pieces_none test [] e = refl
pieces_none test (c ∷ cs) e = ap (go_on (pieces_within test (length cs)) (c ∷ cs)) e

-- the same where nothing goes on
pub pieces_exact : (test : ℕ → Bool) → test 92 ≡ false → (ps : List Piece) (rest : List ℕ)
    → list_all (is_piece test) ps ≡ true → piece_at test rest ≡ None
    → pieces_at test (spell_pieces ps ++ rest) ≡ (ps, rest)
pieces_exact test quiet ps rest ok e =
    pieces_again test quiet ps rest ok ∙ ap (λ (v : List Piece × List ℕ). (ps ++ v.0, v.1)) (pieces_none test rest e)
    ∙ ap (λ x. (x, rest)) (append-nil ps)

pub pieces_found : (test : ℕ → Bool) (cs : List ℕ) → AreFound test cs (pieces_at test cs)
unfolding pieces_at
pieces_found test cs = within_found test (length cs) cs

pub pieces_end : (test : ℕ → Bool) (cs : List ℕ) → piece_at test (pieces_at test cs).1 ≡ None
unfolding pieces_at
pieces_end test cs = within_ends test (length cs) cs (omega arith)

nothing : (test : ℕ → Bool) {found : Piece × List ℕ} → piece_at test [] ≡ Some found → ⊥
unfolding piece_at
nothing test e = cc

-- one step
pub pieces_step : (test : ℕ → Bool) (cs : List ℕ) (p : Piece) (rest : List ℕ) → piece_at test cs ≡ Some (p, rest)
    → pieces_at test cs ≡ (p ∷ (pieces_at test rest).0, (pieces_at test rest).1)
unfolding pieces_at pieces_within
pieces_step test [] p rest e = absurd (nothing test e)
pieces_step test (c ∷ cs) p rest e =
    let shorter : length rest < length (c ∷ cs) =
    if_some_at (λ (found : Piece × List ℕ). length found.1 < length (c ∷ cs)) e (piece_shorter test (c ∷ cs)) in
    ap (go_on (pieces_within test (length cs)) (c ∷ cs)) e
    ∙ ap (λ (v : List Piece × List ℕ). (p ∷ v.0, v.1))
    (bound_free test (length cs) (length rest) rest (omega arith) (omega arith))
