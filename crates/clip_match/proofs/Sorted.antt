-- Entries in order, look-ups and filters.
use Rattle.std.proofs.Common.{◌≡◌, ◌+◌, Bool, true, false, cond, List, [], ◌∷◌, filter, refl, sym, ap, ◌∙◌, arith}
use Rattle.std.proofs.Common.{Some, is_lt}
use Rattle.std.specs.Cmp.{IsTotalOrder}
use Rattle.std.specs.List.{IsDistinct}
use Rattle.std.specs.List.Sorted.{IsSorted, IsStrictlySortedBy}
use Rattle.std.specs.Map.{lookup}
use Rattle.std.specs.FinMap.Entries.{find, is_sorted, below_all}
use Rattle.std.specs.Ordering.{eq_by_cmp, is_eq, ordering_reverse}
use Rattle.std.specs.declared.cmp.Ordering.{Ordering}
use Rattle.std.specs.declared.cmp.Ordering.TheVariants.{Less, Equal, Greater}
use Rattle.std.proofs.lemmas.Bool.{and_from, and_parts, false≢true}
use Rattle.std.proofs.lemmas.Map.Keys.{apart_from_distinct, sorted_from_all_adjacent}

module _ {K : Type 0} {R : K → K → Ordering} (o : IsTotalOrder R) where
  rises : (x y : K) → is_lt (R y x) ≡ false → eq_by_cmp R x y ≡ false → R x y ≡ Less
  rises x y high apart =
      elim (R x y) as (λ r. R x y ≡ r → is_eq r ≡ false → r ≡ Less) [
        | Less ↦ λ _ _. refl
        | Equal ↦ λ _ tied. absurd (false≢true (sym tied))
        | Greater ↦ λ is _. absurd (false≢true (sym high ∙ ap is_lt (o.antisymm y x ∙ ap ordering_reverse is)))
      ] refl apart

  -- keys that do not fall and differ rise
  pub strict_from_distinct : (ks : List K) → IsSorted R ks → IsDistinct (eq_by_cmp R) ks → IsStrictlySortedBy R ks
  unfolding IsStrictlySortedBy
  strict_from_distinct [] sorted distinct = tt
  strict_from_distinct (k ∷ ks) sorted distinct =
      sorted_from_all_adjacent o (k ∷ ks) k
      (λ i inside. rises _ _ (sorted i k (omega arith) inside)
      (apart_from_distinct (eq_by_cmp R) (k ∷ ks) i (i + 1) k distinct (omega arith) inside))

module _ {K X : Type 0} (R : K → K → Ordering) where
  -- what `find` finds is what a look-up finds
  pub find_lookup : (q : K) (es : List (K × X)) → find R q es ≡ lookup (eq_by_cmp R q) es
  find_lookup q [] = refl
  find_lookup q (e ∷ es) = ap (cond (eq_by_cmp R q e.0) (Some e.1)) (find_lookup q es)

  -- ---- of the entries, those that pass a test

  below_filter : (p : K × X → Bool) (k : K) (es : List (K × X)) → below_all R k es ≡ true
      → below_all R k (filter p es) ≡ true
  below_filter p k [] below = refl
  below_filter p k (e ∷ es) below =
      let parts = and_parts (is_lt (R k e.0)) _ below in
      let later = below_filter p k es parts.1 in
      elim (p e) as (λ b. below_all R k (cond b (e ∷ filter p es) (filter p es)) ≡ true) [
        | true ↦
            and_from (is_lt (R k e.0)) _ parts.0 later
        | false ↦ later
      ]

  pub sorted_filter : (p : K × X → Bool) (es : List (K × X)) → is_sorted R es ≡ true → is_sorted R (filter p es) ≡ true
  sorted_filter p [] sorted = refl
  sorted_filter p (e ∷ es) sorted =
      let parts = and_parts (below_all R e.0 es) _ sorted in
      let later = sorted_filter p es parts.1 in
      elim (p e) as (λ b. is_sorted R (cond b (e ∷ filter p es) (filter p es)) ≡ true) [
        | true ↦
            and_from (below_all R e.0 (filter p es)) _ (below_filter p e.0 es parts.0) later
        | false ↦ later
      ]
