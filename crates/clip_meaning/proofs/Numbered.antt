-- The words of a field and their postings: a test of words, and a phrase.
use Rattle.std.proofs.Common.{◌≡◌, ℕ, ◌+◌, ◌<◌, Bool, true, false, cond, ◌&&◌, ◌||◌, List, [], ◌∷◌, length, drop, map}
use Rattle.std.proofs.Common.{filter, bytes_eq, IsPermutation, refl, sym, ap, ◌∙◌, arith, get_or}
use Rattle.std.specs.List.{list_any, starts_with}
use Rattle.std.specs.Cmp.Lexicographic.{nat_list_eq_equiv}
use Rattle.std.proofs.lemmas.List.Sorted.{list_any-IsPermutation}
use Rattle.std.proofs.lemmas.List.{drop-drop}
use Rattle.clip_meaning.specs.Index.{numbered}
use Rattle.clip_meaning.specs.Steps.Searches.{stands_at}
use Rattle.clip_meaning.specs.Meaning.{has_run, is_nonempty}
use Rattle.clip_meaning.proofs.WordOrder.{Place}

numbered_pass : (t : List ℕ → Bool) (n : ℕ) (ws : List (List ℕ)) → list_any (λ (p : Place). t p.0) (numbered n ws)
    ≡ list_any t ws
numbered_pass t n [] = refl
numbered_pass t n (w ∷ ws) = ap (λ b. t w || b) (numbered_pass t (n + 1) ws)

-- one that is kept passes
pub any_filter : {A : Type 0} (q t : A → Bool) (xs : List A) → list_any t (filter q xs) ≡ list_any (λ x. q x && t x) xs
any_filter q t [] = refl
any_filter q t (x ∷ xs) = by_test (q x) ∙ ap (λ b. (q x && t x) || b) (any_filter q t xs)
  where
    by_test : (b : Bool) → list_any t (cond b (x ∷ filter q xs) (filter q xs))
        ≡ ((b && t x) || list_any t (filter q xs))
    by_test true = refl
    by_test false = refl

-- some posting's word passes where some word does
pub words_pass : (t : List ℕ → Bool) (ws : List (List ℕ)) (ps : List Place) → IsPermutation (numbered 0 ws) ps
    → list_any (λ (p : Place). t p.0) ps ≡ list_any t ws
words_pass t ws ps same = sym (list_any-IsPermutation (λ (p : Place). t p.0) (numbered 0 ws) ps same)
    ∙ numbered_pass t 0 ws

-- ---- phrases

pub rest_dropped : (n : ℕ) (all : List (List ℕ)) (w : List ℕ) (ws : List (List ℕ)) → drop n all ≡ w ∷ ws
    → drop (n + 1) all ≡ ws
rest_dropped n all w ws e = sym (drop-drop 1 n all) ∙ ap (drop 1) e

twice : (a b c : Bool) → a ≡ b → (a && (b && c)) ≡ (b && c)
twice a true c e = ap (λ x. x && c) e
twice a false c e = ap (λ x. x && false) e

-- a run of the phrase begins at a posting of its first word
run_numbered : (all ws fs : List (List ℕ)) (f : List ℕ) (n : ℕ) → drop n all ≡ ws
    → has_run ws (f ∷ fs) ≡ list_any (λ p. bytes_eq p.0 f && stands_at all (f ∷ fs) p.1) (numbered n ws)
run_numbered all [] fs f n e = refl
run_numbered all (w ∷ ws) fs f n e =
    ap (λ b. b || has_run ws (f ∷ fs)) (sym (ap (λ xs. bytes_eq w f && starts_with bytes_eq xs (f ∷ fs)) e
    ∙ twice (bytes_eq w f) (bytes_eq f w) _ (nat_list_eq_equiv.symm w f)))
    ∙ ap (λ b. (bytes_eq w f && stands_at all (f ∷ fs) n)
    || b) (run_numbered all ws fs f (n + 1) (rest_dropped n all w ws e))

-- the postings of its first word settle a phrase, whose words g gives
pub run_at_posting : {X : Type 0} (g : X
    → List ℕ) (all : List (List ℕ)) (phrase : List X) (x : X) (ps found : List Place) → 0 < length phrase
    → x ≡ get_or phrase 0 x → IsPermutation (numbered 0 all) ps → found ≡ filter (λ (p : Place). bytes_eq p.0 (g x)) ps
    → list_any (λ (p : Place). stands_at all (map g phrase) p.1) found
    ≡ (is_nonempty (map g phrase) && has_run all (map g phrase))
run_at_posting g all [] x ps found lt is same kept = absurd (omega arith)
run_at_posting g all (y ∷ ys) x ps found lt is same kept =
    let f = g y in
    let fs = map g ys in
    ap (list_any (λ (p : Place). stands_at all (f ∷ fs) p.1)) (kept
    ∙ ap (λ z. filter (λ (p : Place). bytes_eq p.0 (g z)) ps) is)
    ∙ any_filter (λ p. bytes_eq p.0 f) (λ p. stands_at all (f ∷ fs) p.1) ps
    ∙ sym (list_any-IsPermutation (λ (p : Place). bytes_eq p.0 f
    && stands_at all (f ∷ fs) p.1) (numbered 0 all) ps same)
    ∙ sym (run_numbered all all fs f 0 refl)
