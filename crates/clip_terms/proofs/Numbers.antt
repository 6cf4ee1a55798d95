-- The number of a key among terms in order, by a binary search.
use Rattle.std.proofs.Common.{◌≡◌, ℕ, suc, zero, ◌<◌, false, cond, List, [], ◌∷◌, length, map, get_or, Some, None}
use Rattle.std.proofs.Common.{option_map, is_eq, is_lt, refl, sym, ap, ◌∙◌, subst, arith, add-one, inl, inr}
use Rattle.std.specs.Prelude.{Result, Ok, Err, MatchResult}
use Rattle.std.specs.Ordering.{ordering_reverse}
use Rattle.std.specs.declared.cmp.Ordering.{Ordering}
use Rattle.std.specs.declared.cmp.Ordering.TheVariants.{Less, Greater}
use Rattle.std.specs.List.{AllByRecursion}
use Rattle.std.specs.List.Sorted.{IsSortedBy, IsStrictlySortedBy, IsBinarySearchResult, IsSearchInRange}
use Rattle.std.proofs.lemmas.Bool.{cases_lt}
use Rattle.std.proofs.lemmas.List.{get_or-map, length-map}
use Rattle.std.proofs.lemmas.List.Sorted.{searchable_from_sorted}
use Rattle.clip_extract.specs.Keys.{KeyValue, key_of, key_cmp, is_same, in_order}
use Rattle.clip_extract.specs.declared.key.Key.{Key}
use Rattle.clip_extract.specs.declared.key.Key.TheVariants as variant
use Rattle.clip_extract.specs.contracts.key.KeyOrd.TheImpl as key_ord
use Rattle.clip_extract.proofs.Members.{keys_in_order}
use Rattle.clip_extract.proofs.Order.{key_cmp_total, key_cmp_same, same_itself}
use Rattle.clip_extract.proofs.SortedKeys.{key_order}
use Rattle.clip_terms.specs.Terms.{number_of}

abbrev pub IsRising : List KeyValue → Type 0
IsRising = IsStrictlySortedBy key_cmp

pub in_order_rises : (keys : List KeyValue) → IsRising (in_order keys)
in_order_rises keys = keys_in_order key_cmp _

pub above_at : (key : KeyValue) (ts : List KeyValue) (j : ℕ) (d : KeyValue)
    → AllByRecursion (λ t. key_cmp key t ≡ Less) ts → j < length ts → key_cmp key (get_or ts j d) ≡ Less
above_at key [] j d all inside = absurd (omega arith)
above_at key (t ∷ ts) zero d all inside = all.0
above_at key (t ∷ ts) (suc j) d all inside = above_at key ts j d all.1 (omega arith)

reversed : (k l : KeyValue) → key_cmp k l ≡ Less → key_cmp l k ≡ Greater
reversed k l less = key_cmp_total.antisymm l k ∙ ap ordering_reverse less

next_above : (ts : List KeyValue) → IsRising ts → (k : ℕ) (d : KeyValue) → suc k < length ts
    → is_lt (key_cmp (get_or ts (suc k) d) (get_or ts k d)) ≡ false
unfolding IsStrictlySortedBy
next_above [] up k d inside = absurd (omega arith)
next_above (t ∷ ts) up zero d inside = ap is_lt (reversed t (get_or ts 0 d) (above_at t ts 0 d up.0 (omega arith)))
next_above (t ∷ ts) up (suc k) d inside = next_above ts up.1 k d (omega arith)

-- the term at a place is the key: that is its number
pub found_number : (ts : List KeyValue) (q : KeyValue) (i : ℕ) (d : KeyValue) → IsRising ts → i < length ts
    → get_or ts i d ≡ q → number_of ts q ≡ Some i
unfolding IsStrictlySortedBy
found_number [] q i d up inside e = absurd (omega arith)
found_number (t ∷ ts) q zero d up inside e =
    ap (λ b. cond b (Some 0) (option_map suc (number_of ts q))) (ap (is_same q) e ∙ same_itself q)
found_number (t ∷ ts) q (suc i) d up inside e =
    let less : key_cmp t q ≡ Less = subst (λ k. key_cmp t k ≡ Less) e (above_at t ts i d up.0 (omega arith)) in
    ap (λ b. cond b (Some 0) (option_map suc (number_of ts q))) (ap is_eq (reversed t q less))
    ∙ ap (option_map suc) (found_number ts q i d up.1 (omega arith) e)

-- no term is the key: it has no number
pub missing_number : (ts : List KeyValue) (q : KeyValue)
    → ((i : ℕ) (d : KeyValue) → i < length ts → is_same q (get_or ts i d) ≡ false) → number_of ts q ≡ None
missing_number [] q none = refl
missing_number (t ∷ ts) q none =
    ap (λ b. cond b (Some 0) (option_map suc (number_of ts q))) (none 0 t (omega arith))
    ∙ ap (option_map suc) (missing_number ts q (λ i d inside. none (suc i) d (omega arith)))

-- ---- keys compare as what contracts see of them

key_at : (keys : List Key) (i : ℕ) (d : Key) → i < length keys → get_or (map key_of keys) i (key_of d)
    ≡ key_of (get_or keys i d)
key_at keys i d inside = get_or-map key_of keys i d (key_of d) inside

sorted_keys : (keys : List Key) → IsRising (map key_of keys)
    → IsSortedBy (λ a b. is_lt (key_cmp (key_of a) (key_of b))) keys
sorted_keys keys up k d low inside =
    let within : suc k < length keys = omega arith in
    let below : k < length keys = omega arith in
    let long : suc k < length (map key_of keys) = rw (length-map keys key_of) within in
    rw add-one (
    sym (ap (λ a. is_lt (key_cmp a (key_of (get_or keys k d)))) (key_at keys (suc k) d within)
    ∙ refl) ∙ sym (ap (λ b. is_lt (key_cmp (get_or (map key_of keys) (suc k) (key_of d)) b)) (key_at keys k d below))
    ∙ next_above (map key_of keys) up k (key_of d) long)

not_tied : (k q : KeyValue) → key_cmp k q ≡ Less → is_same q k ≡ false
not_tied k q less = ap is_eq (reversed k q less)

not_tied_above : (k q : KeyValue) → key_cmp k q ≡ Greater → is_same q k ≡ false
not_tied_above k q greater = ap is_eq (key_cmp_total.antisymm q k ∙ ap ordering_reverse greater)

-- what a binary search answers, by the order of keys as contracts see them
pub searched_key : (keys : List Key) (q : KeyValue) (r : Result ℕ ℕ) → IsRising (map key_of keys)
    → IsSearchInRange r (length keys) → IsBinarySearchResult (λ k. key_cmp (key_of k) q) keys r
    → MatchResult r (λ i. Some i ≡ number_of (map key_of keys) q) (λ i. None ≡ number_of (map key_of keys) q)
searched_key keys q (Ok i) up bound at =
    sym (found_number (map key_of keys) q i (key_of variant.Any) up (rw (length-map keys key_of) bound)
    (key_at keys i variant.Any bound ∙ key_cmp_same _ _ (at variant.Any)))
searched_key keys q (Err i) up bound at =
    let point = at (searchable_from_sorted key_cmp_total key_of keys q (sorted_keys keys up)) in
    sym (missing_number (map key_of keys) q (λ j d inside.
    let within : j < length keys = rw (length-map keys key_of) at inside in
    ap (is_same q) (get_or-map key_of keys j variant.Any d within)
    ∙ elim (cases_lt j i) [
      | inl before ↦ not_tied (key_of (get_or keys j variant.Any)) q (point.0 j variant.Any (omega arith) before)
      | inr after ↦ not_tied_above (key_of (get_or keys j variant.Any)) q (point.1 j variant.Any (omega arith) within)
    ]))

-- and by their own order
pub searched_number : (keys : List Key) (q : Key) (r : Result ℕ ℕ) → IsRising (map key_of keys)
    → IsSearchInRange r (length keys) → IsBinarySearchResult (λ k. key_ord.ghosts.cmp k q) keys r
    → MatchResult r (λ i. Some i ≡ number_of (map key_of keys) (key_of q)) (λ i. None
    ≡ number_of (map key_of keys) (key_of q))
searched_number keys q r up bound at =
    searched_key keys (key_of q) r up bound
    (subst (λ (f : Key → Ordering). IsBinarySearchResult f keys r) (λ j k. key_order k q j) at)
