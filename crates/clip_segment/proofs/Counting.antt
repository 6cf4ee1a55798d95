-- How many positions stand under an article's keys, as the lists of their numbers have them.
use Rattle.std.proofs.Common.{◌≡◌, ℕ, ◌+◌, ◌<◌, ◌≤◌, Bool, true, false, cond, ◌||◌, nat_eq, List, [], ◌∷◌, ◌++◌}
use Rattle.std.proofs.Common.{All, map, filter, flat_map, length, refl, sym, ap, ◌∙◌, subst, arith}
use Rattle.std.proofs.Common.{eq-eqb, ne_eqb, inl, inr}
use Rattle.std.specs.FinMap as finite
use Rattle.std.specs.List.{AllByRecursion, IsDistinct, count_by, enumerate_from, list_any, sum_by}
use Rattle.std.specs.List.Sorted.{IsStrictlySortedBy}
use Rattle.std.proofs.lemmas.Bool.{cases_eq, false≢true, or_right}
use Rattle.std.proofs.lemmas.List.{length-map}
use Rattle.std.proofs.lemmas.List.Concat.{length-flat_map}
use Rattle.std.proofs.lemmas.List.Kept.{IsStrictlySortedBy-filter}
use Rattle.std.proofs.lemmas.List.Sums.{sum_by-cons}
use Rattle.std.proofs.lemmas.Map.Keys.{IsDistinct-from_sorted}
use Rattle.clip_grammar.specs.Tree.{Tree}
use Rattle.clip_meaning.specs.Article.{Fields}
use Rattle.clip_extract.specs.Keys.{KeyValue, Any, key_cmp, is_same}
use Rattle.clip_extract.specs.Covering.{article_keys, field_keys, front_keys}
use Rattle.clip_extract.proofs.Order.{same_itself}
use Rattle.clip_terms.specs.Terms.{term_at, number_of}
use Rattle.clip_terms.proofs.Numbers.{in_order_rises}
use Rattle.clip_terms.specs.Reading.{has_key as article_has}
use Rattle.clip_terms.specs.Steps.Numbers.{known}
use Rattle.clip_terms.proofs.ReadingOf.{known_terms, known_within}
use Rattle.clip_segment.specs.Index.{asked_of, has_key, positions_by, positions_under, query_positions_with, terms_of}
use Rattle.clip_segment.proofs.Answering.{had_known, list_at, lists_of_keys}
use Rattle.clip_segment.proofs.Asked.{AreAsked}

-- ---- sums over the same numbers

-- the numbers without the first that is this one
abbrev without : ℕ → List ℕ → List ℕ
without n [] = []
without n (m ∷ ms) = cond (nat_eq n m) ms (m ∷ without n ms)

without_first : (n m : ℕ) (ms : List ℕ) → n ≡ m → without n (m ∷ ms) ≡ ms
without_first n m ms e = ap (λ b. cond b ms (m ∷ without n ms)) (eq-eqb n m e)

without_later : (n m : ℕ) (ms : List ℕ) → (n ≡ m → ⊥) → without n (m ∷ ms) ≡ m ∷ without n ms
without_later n m ms ne = ap (λ b. cond b ms (m ∷ without n ms)) (ne_eqb n m ne)

-- a number that is not the first is among the others
among_later : (n m : ℕ) (ms : List ℕ) → (n ≡ m → ⊥) → list_any (nat_eq n) (m ∷ ms) ≡ list_any (nat_eq n) ms
among_later n m ms ne = ap (λ b. b || list_any (nat_eq n) ms) (ne_eqb n m ne)

among_first : (n m : ℕ) (ms : List ℕ) → n ≡ m → list_any (nat_eq n) (m ∷ ms) ≡ true
among_first n m ms e = ap (λ b. b || list_any (nat_eq n) ms) (eq-eqb n m e)

sum_without : (f : ℕ → ℕ) (n : ℕ) (ms : List ℕ) → list_any (nat_eq n) ms ≡ true
    → sum_by f ms ≡ f n + sum_by f (without n ms)
sum_without f n [] there = absurd (false≢true there)
sum_without f n (m ∷ ms) there = elim (cases_eq n m) [
  | inl e ↦ omega (arith, sum_by-cons f m ms, ap f e, ap (sum_by f) (without_first n m ms e))
  | inr ne ↦
      let later = sum_without f n ms (sym (among_later n m ms ne) ∙ there) in
      omega (
        arith,
        sum_by-cons f m ms,
        later,
        sum_by-cons f m (without n ms),
        ap (sum_by f) (without_later n m ms ne),
      )
]

among_without : (n k : ℕ) (ms : List ℕ) → (k ≡ n → ⊥) → list_any (nat_eq k) ms ≡ true
    → list_any (nat_eq k) (without n ms) ≡ true
among_without n k [] apart there = there
among_without n k (m ∷ ms) apart there = elim (cases_eq n m) [
  | inl e ↦ ap (list_any (nat_eq k)) (without_first n m ms e)
      ∙ sym (among_later k m ms (λ same. apart (same ∙ sym e))) ∙ there
  | inr ne ↦ ap (list_any (nat_eq k)) (without_later n m ms ne) ∙ (elim (cases_eq k m) [
    | inl e ↦ among_first k m (without n ms) e
    | inr other ↦
        among_later k m (without n ms) other
        ∙ among_without n k ms apart (sym (among_later k m ms other) ∙ there)
  ])
]

none_among : (n : ℕ) (ms : List ℕ) → AllByRecursion (λ m. nat_eq n m ≡ false) ms → list_any (nat_eq n) ms ≡ false
none_among n [] apart = refl
none_among n (m ∷ ms) apart = ap (λ b. b || list_any (nat_eq n) ms) apart.0 ∙ none_among n ms apart.1

-- numbers that are among others, each once, come to no more
sum_within : (f : ℕ → ℕ) (xs ys : List ℕ) → IsDistinct nat_eq xs
    → ((n : ℕ) → list_any (nat_eq n) xs ≡ true → list_any (nat_eq n) ys ≡ true) → sum_by f xs ≤ sum_by f ys
unfolding IsDistinct
sum_within f [] ys once among = omega arith
sum_within f (x ∷ xs) ys once among =
    let apart : (n : ℕ) → list_any (nat_eq n) xs ≡ true → n ≡ x → ⊥ =
    λ n there e. false≢true (sym (none_among x xs once.0) ∙ ap (λ k. list_any (nat_eq k) xs) (sym e) ∙ there) in
    let later = sum_within f xs (without x ys) once.1
    (λ n there. among_without x n ys (apart n there)
    (among n (or_right (nat_eq n x) (list_any (nat_eq n) xs) there))) in
    omega (arith, sum_by-cons f x xs, later, sum_without f x ys (among x (among_first x x xs refl)))

sum_same : (f : ℕ → ℕ) (xs ys : List ℕ) → IsDistinct nat_eq xs → IsDistinct nat_eq ys
    → ((n : ℕ) → list_any (nat_eq n) xs ≡ list_any (nat_eq n) ys) → sum_by f xs ≡ sum_by f ys
sum_same f xs ys once each same =
    let most = sum_within f xs ys once (λ n there. sym (same n) ∙ there) in
    let least = sum_within f ys xs each (λ n there. same n ∙ there) in
    omega (arith, most, least)

-- ---- the numbers of keys

apart_named : (g : ℕ → KeyValue) (n : ℕ) (ns : List ℕ) → AllByRecursion (λ k. is_same (g n) k ≡ false) (map g ns)
    → AllByRecursion (λ m. nat_eq n m ≡ false) ns
apart_named g n [] apart = apart
apart_named g n (m ∷ ns) apart = (
  ne_eqb n m (λ e. false≢true (sym apart.0 ∙ ap (λ k. is_same (g n) (g k)) (sym e) ∙ same_itself (g n))),
  apart_named g n ns apart.1,
)

-- numbers of keys that differ do so too
once_named : (g : ℕ → KeyValue) (ns : List ℕ) → IsDistinct is_same (map g ns) → IsDistinct nat_eq ns
unfolding IsDistinct
once_named g [] once = once
once_named g (n ∷ ns) once = (apart_named g n ns once.0, once_named g ns once.1)

known_once : (terms keys : List KeyValue) → IsStrictlySortedBy key_cmp keys
    → IsDistinct nat_eq (known (map (number_of terms) keys))
known_once terms keys strict =
    let is_term : KeyValue → Bool = λ k. list_any (is_same k) terms in
    once_named (term_at terms) (known (map (number_of terms) keys))
    (subst (IsDistinct is_same) (sym (known_terms terms keys))
    (IsDistinct-from_sorted key_cmp (filter is_term keys) (IsStrictlySortedBy-filter key_cmp is_term keys strict)))

-- ---- positions

passing_count : (test : Tree → Bool) (first : ℕ) (trees : List Tree)
    → length (filter (λ e. test e.1) (enumerate_from first trees)) ≡ count_by test trees
passing_count test first [] = refl
passing_count test first (tree ∷ trees) =
    by_test (test tree) (passing_count test (first + 1) trees)
    ∙ sym (sum_by-cons (λ (t : Tree). cond (test t) 1 0) tree trees)
  where
    more : List (ℕ × Tree)
    more = filter (λ e. test e.1) (enumerate_from (first + 1) trees)

    by_test : (b : Bool) → length more ≡ count_by test trees
        → length (cond b ((first, tree) ∷ more) more) ≡ cond b 1 0 + count_by test trees
    by_test true same = omega (arith, same)
    by_test false same = omega (arith, same)

count_of_key : (keys_of : Tree → List KeyValue) (trees : List Tree) (key : KeyValue)
    → length (query_positions_with keys_of key trees) ≡ count_by (has_key keys_of key) trees
count_of_key keys_of trees key =
    length-map (filter (λ (e : ℕ × Tree). has_key keys_of key e.1) (enumerate_from 0 trees)) (λ (e : ℕ × Tree). e.0)
    ∙ passing_count (has_key keys_of key) 0 trees

-- the lists of the numbers of the terms that an article has are as long as there are positions under its keys
pub read_under : (keys_of : Tree → List KeyValue) → AreAsked keys_of → (trees : List Tree) (terms : List KeyValue)
    → terms ≡ terms_of trees → (lists : List (List ℕ)) → lists ≡ positions_by keys_of terms trees
    → (fields : Fields) (ns : List ℕ) → IsDistinct nat_eq ns → All (λ n. n < length terms) ns
    → ((n : ℕ) → n < length terms → list_any (nat_eq n) ns ≡ article_has fields (term_at terms n))
    → sum_by (λ n. length (list_at lists n)) ns ≡ positions_under keys_of (article_keys fields) trees
read_under keys_of asked trees terms are lists placed fields ns once within had =
    let keys = article_keys fields in
    let all = known (map (number_of terms) keys) in
    let rising : IsStrictlySortedBy key_cmp terms =
    subst (IsStrictlySortedBy key_cmp) (sym are) (in_order_rises (flat_map asked_of trees)) in
    let strict : IsStrictlySortedBy key_cmp keys =
    in_order_rises (Any ∷ flat_map field_keys (finite.entries fields) ++ flat_map front_keys (finite.entries fields)) in
    sum_same (λ n. length (list_at lists n)) ns all once (known_once terms keys strict)
    (had_known terms rising fields ns within had)
    ∙ sym (length-flat_map (list_at lists) all)
    ∙ ap length (lists_of_keys keys_of asked trees terms are lists placed keys all (known_within terms keys)
    (known_terms terms keys))
    ∙ length-flat_map (λ k. query_positions_with keys_of k trees) keys
    ∙ (λ i. sum_by (λ k. count_of_key keys_of trees k i) keys)
