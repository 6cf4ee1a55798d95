-- Keys by their numbers among the terms.
use Rattle.std.proofs.Common.{◌≡◌, ℕ, zero, suc, ◌<◌, ◌≤◌, Bool, true, false, cond, List, [], ◌∷◌, length, Option, Some}
use Rattle.std.proofs.Common.{None, option_map, refl, sym, ap, ◌∙◌, subst, arith, eq-eqb, ne_eqb, inl, inr}
use Rattle.std.specs.Ordering.{is_eq}
use Rattle.std.specs.List.{AllByRecursion}
use Rattle.std.specs.List.Sorted.{IsStrictlySortedBy}
use Rattle.std.specs.declared.cmp.Ordering.TheVariants.{Less}
use Rattle.std.proofs.lemmas.Bool.{cases_eq}
use Rattle.clip_extract.specs.Keys.{KeyValue, Any, Word, key_cmp, is_same}
use Rattle.clip_extract.proofs.Order.{same_key}
use Rattle.clip_terms.specs.Terms.{term_at, number_of}
use Rattle.clip_terms.specs.Steps.Runs.{is_number}

abbrev Tells : List KeyValue → KeyValue → ℕ → Type 0
Tells terms k n = (term_at terms n ≡ k) × (n < length terms)

-- a key that has a number is the term of that number
pub term_of_number : (terms : List KeyValue) (k : KeyValue) (n : ℕ) → number_of terms k ≡ Some n
    → (term_at terms n ≡ k) × (n < length terms)
term_of_number [] k n e = cc
term_of_number (t ∷ terms) k n e = by_test (is_same k t) refl e (term_of_number terms k)
  where
    up : (o : Option ℕ) → option_map suc o ≡ Some n → ((m : ℕ) → o ≡ Some m → Tells terms k m) → Tells (t ∷ terms) k n
    up None is later = cc
    up (Some m) is later =
        let next : suc m ≡ n = cc in
        let there = later m refl in
        subst (Tells (t ∷ terms) k) next (there.0, omega arith)

    by_test : (b : Bool) → is_same k t ≡ b → cond b (Some 0) (option_map suc (number_of terms k)) ≡ Some n
        → ((m : ℕ) → number_of terms k ≡ Some m → Tells terms k m) → Tells (t ∷ terms) k n
    by_test true same is later =
        let first : 0 ≡ n = cc in
        subst (Tells (t ∷ terms) k) first (sym (same_key k t same), omega arith)
    by_test false same is later = up (number_of terms k) is later

-- ---- what the number says of the term of another number

not_below : (k : KeyValue) (ts : List KeyValue) (n : ℕ) → AllByRecursion (λ t. key_cmp k t ≡ Less) ts
    → (length ts ≤ n → is_same k Any ≡ false) → is_same k (term_at ts n) ≡ false
not_below k [] n above far = far (omega arith)
not_below k (t ∷ ts) zero above far = ap is_eq above.0
not_below k (t ∷ ts) (suc n) above far = not_below k ts n above.1 (λ le. far (omega arith))

not_first : (o : Option ℕ) → is_number (option_map suc o) 0 ≡ false
not_first None = refl
not_first (Some m) = ne_eqb (suc m) 0 (λ e. absurd (omega arith))

one_less : (o : Option ℕ) (n : ℕ) → is_number (option_map suc o) (suc n) ≡ is_number o n
one_less None n = refl
one_less (Some m) n =
    elim (cases_eq m n) [
      | inl e ↦ eq-eqb (suc m) (suc n) (omega arith) ∙ sym (eq-eqb m n e)
      | inr ne ↦ ne_eqb (suc m) (suc n) (λ e. ne (omega arith)) ∙ sym (ne_eqb m n ne)
    ]

-- the number is that of a term where the key is the term
pub numbered : (terms : List KeyValue) (k : KeyValue) (n : ℕ) → IsStrictlySortedBy key_cmp terms
    → (length terms ≤ n → is_same k Any ≡ false) → is_number (number_of terms k) n ≡ is_same k (term_at terms n)
unfolding IsStrictlySortedBy
numbered [] k n strict far = sym (far (omega arith))
numbered (t ∷ ts) k zero strict far =
    elim (is_same k t) as (λ b. is_number (cond b (Some 0) (option_map suc (number_of ts k))) 0 ≡ b) [
      | true ↦
          refl
      | false ↦ not_first (number_of ts k)
    ]
numbered (t ∷ ts) k (suc n) strict far = by_test (is_same k t) refl (numbered ts k n strict.1 (λ le. far (omega arith)))
  where
    by_test : (b : Bool) → is_same k t ≡ b → is_number (number_of ts k) n ≡ is_same k (term_at ts n)
        → is_number (cond b (Some 0) (option_map suc (number_of ts k))) (suc n) ≡ is_same k (term_at ts n)
    by_test true same later =
        ne_eqb 0 (suc n) (λ e. absurd (omega arith))
        ∙ sym (not_below k ts n (subst (λ x. AllByRecursion (λ y. key_cmp x y ≡ Less) ts) (sym (same_key k t same))
        strict.0) (λ le. far (omega arith)))
    by_test false same later = one_less (number_of ts k) n ∙ later

-- a word's, also past the last term
pub word_numbered : (terms : List KeyValue) (field word : List ℕ) (n : ℕ) → IsStrictlySortedBy key_cmp terms
    → is_number (number_of terms (Word field word)) n ≡ is_same (Word field word) (term_at terms n)
word_numbered terms field word n strict = numbered terms (Word field word) n strict (λ _. refl)

-- any key's, at a term
pub key_numbered : (terms : List KeyValue) (k : KeyValue) (n : ℕ) → IsStrictlySortedBy key_cmp terms → n < length terms
    → is_number (number_of terms k) n ≡ is_same k (term_at terms n)
key_numbered terms k n strict lt = numbered terms k n strict (λ le. absurd (omega arith))
