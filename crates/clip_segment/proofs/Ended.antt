-- Lists of positions that end with one, and lists for each term after one more key of a query.
use Rattle.std.proofs.Common.{◌≡◌, ℕ, zero, suc, ◌+◌, ◌-◌, ◌<◌, ◌≤◌, Bool, true, false, ◌||◌, cond, List, [], ◌∷◌, ◌++◌}
use Rattle.std.proofs.Common.{length, map, filter, take, get_or, set, Option, Some, None, slice_get, unwrap_or, refl}
use Rattle.std.proofs.Common.{sym, ap, ◌∙◌, subst}
use Rattle.std.proofs.Common.{arith, append-nil, length-append}
use Rattle.std.proofs.lemmas.Bool.{eq-eqb, eqb-true, false≢true, false_from_ne_true}
use Rattle.std.proofs.lemmas.List.{get_or-map, set-get_or, take_more, map-append}
use Rattle.std.proofs.lemmas.Option.{slice_get-get_or}
use Rattle.std.proofs.lemmas.List.Folds.{list_any-append}
use Rattle.std.specs.List.{list_any, enumerate_from, AllByRecursion}
use Rattle.std.specs.List.Sorted.{IsStrictlySortedBy}
use Rattle.clip_grammar.specs.Tree.{Tree}
use Rattle.clip_extract.proofs.Order.{same_key}
use Rattle.clip_extract.specs.Keys.{KeyValue, Any, key_of, key_cmp, is_same}
use Rattle.clip_extract.specs.declared.key.Key.{Key}
use Rattle.clip_terms.specs.Terms.{number_of}
use Rattle.clip_terms.proofs.NumberedKeys.{term_of_number}
use Rattle.clip_segment.specs.Index.{query_positions_with}
use Rattle.clip_segment.specs.Steps.Ends.{is_this, ends_with, once_more, with_positions, NoneEnds}
use Rattle.clip_segment.proofs.Keys.{flipped}
use Rattle.clip_segment.proofs.Lists.{with_list, position_added}

-- ---- the end of a list

last_added : (xs : List ℕ) (p : ℕ) → slice_get (xs ++ p ∷ []) (length xs) ≡ Some p
last_added [] p = refl
last_added (x ∷ xs) p = last_added xs p

-- a list ends with what was added to it
ends_added : (xs : List ℕ) (p : ℕ) → ends_with (xs ++ p ∷ []) p ≡ true
ends_added xs p =
    let last : length (xs ++ p ∷ []) - 1 ≡ length xs = omega (arith, length-append xs (p ∷ [])) in
    ap (λ n. is_this (slice_get (xs ++ p ∷ []) n) p) last ∙ ap (λ o. is_this o p) (last_added xs p)
    ∙ eq-eqb p p refl

below_at : (xs : List ℕ) (i x p : ℕ) → AllByRecursion (λ n. n < p) xs → slice_get xs i ≡ Some x → x < p
below_at [] i x p all is = cc
below_at (y ∷ ys) zero x p all is = let same : y ≡ x = cc in subst (λ n. n < p) same all.0
below_at (y ∷ ys) (suc i) x p all is = below_at ys i x p all.1 is

-- a list of lesser positions does not end with one
ends_below : (xs : List ℕ) (p : ℕ) → AllByRecursion (λ n. n < p) xs → ends_with xs p ≡ false
ends_below xs p all = at (slice_get xs (length xs - 1)) refl
  where
    at : (o : Option ℕ) → slice_get xs (length xs - 1) ≡ o → is_this o p ≡ false
    at None is = refl
    at (Some x) is = false_from_ne_true _ (λ same.
        let less : x < p = below_at xs (length xs - 1) x p all is in
        let equal : x ≡ p = eqb-true x p same in
        absurd (omega arith))

lesser : (test : Tree → Bool) (n p : ℕ) (ts : List Tree) → n + length ts ≤ p
    → AllByRecursion (λ m. m < p) (map (λ (e : ℕ × Tree). e.0) (filter (λ e. test e.1) (enumerate_from n ts)))
lesser test n p [] few = tt
lesser test n p (t ∷ ts) few =
    let others = filter (λ (e : ℕ × Tree). test e.1) (enumerate_from (n + 1) ts) in
    let rest = lesser test (n + 1) p ts (omega arith) in
    elim (test t) as
    (λ b. AllByRecursion (λ m. m < p) (map (λ (e : ℕ × Tree). e.0) (cond b ((n, t) ∷ others) others))) [
      | true ↦ (omega arith, rest)
      | false ↦ rest
    ]

-- the positions of some queries do not end with that of the next
pub none_ends : (keys_of : Tree → List KeyValue) (trees : List Tree) (position : ℕ) → length trees ≡ position
    → NoneEnds (λ term. query_positions_with keys_of term trees) position
none_ends keys_of trees position long term = ends_below _ position (lesser _ 0 position trees (omega (arith, long)))

-- ---- one more key

joined : (xs : List ℕ) (p : ℕ) (a s : Bool) → (s ≡ true → a ≡ false)
    → (xs ++ cond a (p ∷ []) []) ++ cond s (p ∷ []) [] ≡ xs ++ cond (a || (s || false)) (p ∷ []) []
joined xs p true true apart = absurd (false≢true (sym (apart refl)))
joined xs p false true apart = ap (λ ys. ys ++ p ∷ []) (append-nil xs)
joined xs p true false apart = append-nil _
joined xs p false false apart = append-nil _

kept : (a s : Bool) → (s ≡ true → a ≡ true) → a ≡ (a || (s || false))
kept true s there = refl
kept false true there = there refl
kept false false there = refl

-- a key more among those of a query
more : (t key : KeyValue) (before : List KeyValue) → list_any (is_same t) (before ++ key ∷ [])
    ≡ (list_any (is_same t) before || (is_same t key || false))
more t key before = list_any-append (is_same t) before (key ∷ [])

-- the position comes to the end of the key's list, if it is not there
pub key_once : (key : KeyValue) (position : ℕ) (under : KeyValue → List ℕ) (before terms : List KeyValue) (n : ℕ)
    → IsStrictlySortedBy key_cmp terms → number_of terms key ≡ Some n → ends_with (under key) position ≡ false
    → set (map (with_positions before position under) terms) n
    (once_more (get_or (map (with_positions before position under) terms) n []) position)
    ≡ map (with_positions (before ++ key ∷ []) position under) terms
key_once key position under before terms n rising e fresh =
    at (list_any (is_same key) before) refl
  where
    f : KeyValue → List ℕ
    f = with_positions before position under

    there : get_or (map f terms) n [] ≡ f key
    there =
        let term = term_of_number terms key n e in
        let found : get_or terms n key ≡ key =
        ap (λ o. unwrap_or o Any) (sym (slice_get-get_or terms n key term.1)) ∙ term.0 in
        get_or-map f terms n key [] term.1 ∙ ap f found

    at : (b : Bool) → list_any (is_same key) before ≡ b
        → set (map f terms) n (once_more (get_or (map f terms) n []) position)
        ≡ map (with_positions (before ++ key ∷ []) position under) terms
    at true had =
        let ended : ends_with (get_or (map f terms) n []) position ≡ true =
        ap (λ xs. ends_with xs position) (there ∙ ap (λ b. under key ++ cond b (position ∷ []) []) had)
        ∙ ends_added (under key) position in
        ap (λ b. set (map f terms) n (cond b (get_or (map f terms) n []) (get_or (map f terms) n [] ++ position ∷ [])))
        ended
        ∙ set-get_or (map f terms) n []
        ∙ ap (λ g. map g terms) (λ i t. under t ++ cond (one t i) (position ∷ []) [])
      where
        one : (t : KeyValue) → list_any (is_same t) before ≡ list_any (is_same t) (before ++ key ∷ [])
        one t =
            kept (list_any (is_same t) before) (is_same t key)
            (λ same. ap (λ k. list_any (is_same k) before) (same_key t key same) ∙ had)
            ∙ sym (more t key before)
    at false had =
        let ended : ends_with (get_or (map f terms) n []) position ≡ false =
        ap (λ xs. ends_with xs position) (there ∙ ap (λ b. under key ++ cond b (position ∷ []) []) had
        ∙ append-nil (under key)) ∙ fresh in
        ap (λ b. set (map f terms) n (cond b (get_or (map f terms) n []) (get_or (map f terms) n [] ++ position ∷ [])))
        ended
        ∙ position_added key (position ∷ []) f terms n rising e
        ∙ ap (λ g. map g terms) (λ i t. one t i)
      where
        one : (t : KeyValue) → with_list key (position ∷ []) f t
            ≡ with_positions (before ++ key ∷ []) position under t
        one t =
            ap (λ s. f t ++ cond s (position ∷ []) []) (flipped key t)
            ∙ joined (under t) position (list_any (is_same t) before) (is_same t key)
            (λ same. ap (λ k. list_any (is_same k) before) (same_key t key same) ∙ had)
            ∙ ap (λ b. under t ++ cond b (position ∷ []) []) (sym (more t key before))

-- the keys up to one more
pub next_taken : (ks : List Key) (j : ℕ) (key : Key) → j < length ks → key ≡ get_or ks j key
    → map key_of (take j ks) ++ key_of key ∷ [] ≡ map key_of (take (j + 1) ks)
next_taken ks j key inside is =
    ap (λ k. map key_of (take j ks) ++ key_of k ∷ []) is
    ∙ sym (ap (map key_of) (take_more ks j key inside) ∙ map-append key_of (take j ks) (get_or ks j key ∷ []))
