-- Lists whose keys rise: where a search for a key ends, and what is found, put and taken out there. Each element is an
-- entry by f.
use Rattle.std.proofs.Common.{◌≡◌, ℕ, zero, suc, ◌+◌, ◌-◌, ◌<◌, ◌≤◌, Bool, true, false, cond, not, ◌&&◌, T, List, []}
use Rattle.std.proofs.Common.{◌∷◌, ◌++◌, length, map, get_or, set, Some, None, Option, is_some, is_lt, is_eq, is_gt}
use Rattle.std.proofs.Common.{Ordering, Less, Equal, Greater, insert, remove, refl, sym, ap, subst, ◌∙◌, arith}
use Rattle.std.proofs.Common.{true≢false}
use Rattle.std.proofs.lemmas.Bool.{false≢true}
use Rattle.std.proofs.lemmas.List.{map-id}
use Rattle.std.specs.List.{prefix_len, list_all, AllWithin}
use Rattle.std.specs.List.Sorted.{IsNonDecreasingBy}
use Rattle.std.specs.Ordering.{ordering_reverse, ordering_index, eq_by_cmp}
use Rattle.std.specs.Cmp.{IsTotalOrder}
use Rattle.std.specs.FinMap.{find, put, is_sorted}
use Rattle.std.specs.FinMap.Entries.{below_all, by_order, where_key}
use Rattle.clip_grammar.proofs.Booleans.{first, second, both}
use Rattle.clip_grammar.proofs.Orderings.{less}

pub left : (a b : Bool) → (a && b) ≡ true → a ≡ true
left true b h = refl
left false b h = h

pub right : (a b : Bool) → (a && b) ≡ true → b ≡ true
right true b h = h
right false b h = absurd (false≢true h)

pub none_from : {X : Type 0} (o : Option X) → is_some o ≡ false → o ≡ None
none_from None e = refl
none_from (Some x) e = absurd (true≢false e)

module _ {K : Type 0} (R : K → K → Ordering) (o : IsTotalOrder R) where
  pub turned : (x y : K) (r : Ordering) → R x y ≡ r → R y x ≡ ordering_reverse r
  turned x y r e = o.antisymm y x ∙ ap ordering_reverse e

  -- where y ties with q, what is below y is below q
  pub lower_than_tied : (q x y : K) → R x y ≡ Less → R y q ≡ Equal → R q x ≡ Greater
  lower_than_tied q x y l e = sym (o.congr y q x e) ∙ turned x y Less l

module _ {K X : Type 0} (R : K → K → Ordering) (o : IsTotalOrder R) where
  -- how many keys at the front are below q
  abbrev pub count : K → List (K × X) → ℕ
  count q es = prefix_len (λ (e : K × X). is_gt (R q e.0)) es

  -- whether all are
  abbrev pub all_lower : K → List (K × X) → Bool
  all_lower q es = list_all (λ (e : K × X). is_gt (R q e.0)) es

  -- the entries of the other keys
  abbrev pub others : K → List (K × X) → List (K × X)
  others q es = where_key R (λ k. not (eq_by_cmp R q k)) es

  pub below_less : (x y : K) (es : List (K × X)) → R x y ≡ Less → T (below_all R y es) → T (below_all R x es)
  below_less x y [] p h = tt
  below_less x y (e ∷ es) p h =
      both _ _ (subst (λ r. T (is_lt r)) (sym (o.trans x y e.0 p (less _ (first _ _ h)))) tt)
      (below_less x y es p (second _ _ h))

  pub below_tied : (x y : K) (es : List (K × X)) → R x y ≡ Equal → T (below_all R y es) → T (below_all R x es)
  below_tied x y [] p h = tt
  below_tied x y (e ∷ es) p h =
      both _ _ (subst (λ r. T (is_lt r)) (sym (o.congr x y e.0 p)) (first _ _ h)) (below_tied x y es p (second _ _ h))

  pub none_below : (q : K) (es : List (K × X)) → T (below_all R q es) → find R q es ≡ None
  none_below q [] h = refl
  none_below q (e ∷ es) h = ap (λ r. cond (is_eq r) (Some e.1) (find R q es)) (less _ (first _ _ h))
      ∙ none_below q es (second _ _ h)

  pub all_others : (q : K) (es : List (K × X)) → T (below_all R q es) → others q es ≡ es
  all_others q [] h = refl
  all_others q (e ∷ es) h = ap (λ r. cond (not (is_eq r)) (e ∷ others q es) (others q es)) (less _ (first _ _ h))
      ∙ ap (λ xs. e ∷ xs) (all_others q es (second _ _ h))

  pub below_front : (x : K) (xs ys : List (K × X)) → T (below_all R x (xs ++ ys)) → T (below_all R x xs)
  below_front x [] ys h = tt
  below_front x (e ∷ xs) ys h = both _ _ (first _ _ h) (below_front x xs ys (second _ _ h))

  pub sorted_front : (xs ys : List (K × X)) → T (is_sorted R (xs ++ ys)) → T (is_sorted R xs)
  sorted_front [] ys h = tt
  sorted_front (e ∷ xs) ys h = both _ _ (below_front e.0 xs ys (first _ _ h)) (sorted_front xs ys (second _ _ h))

  pub sorted_back : (xs ys : List (K × X)) → T (is_sorted R (xs ++ ys)) → T (is_sorted R ys)
  sorted_back [] ys h = h
  sorted_back (e ∷ xs) ys h = sorted_back xs ys (second _ _ h)

  module _ {A : Type 0} (f : A → K × X) where
    below_at : (x : K) (xs : List A) (j : ℕ) (d : A) → T (below_all R x (map f xs)) → j < length xs
        → R x (f (get_or xs j d)).0 ≡ Less
    below_at x [] j d h lt = absurd (omega arith)
    below_at x (a ∷ xs) zero d h lt = less _ (first _ _ h)
    below_at x (a ∷ xs) (suc j) d h lt = below_at x xs j d (second _ _ h) (omega arith)

    -- the answers of a search for q do not fall
    in_order : (q x y : K) → R x y ≡ Less → ordering_index (R x q) ≤ ordering_index (R y q)
    in_order q x y l =
        elim (R y q) as (λ r. R y q ≡ r → ordering_index (R x q) ≤ ordering_index r) [
          | Less ↦ λ e. rw (o.trans x y q l e) (omega arith)
          | Equal ↦ λ e. rw (turned R o q x Greater (lower_than_tied R o q x y l e)) (omega arith)
          | Greater ↦ λ e. elim (R x q) as (λ r. ordering_index r ≤ 2) [
            | Less ↦ omega arith
            | Equal ↦
                omega arith
            | Greater ↦ omega arith
          ]
        ] refl

    pub rising : (q : K) (xs : List A) → T (is_sorted R (map f xs))
        → IsNonDecreasingBy (λ a. ordering_index (R (f a).0 q)) xs
    rising q [] h i j d le lt = absurd (omega arith)
    rising q (a ∷ xs) h zero zero d le lt = omega arith
    rising q (a ∷ xs) h zero (suc j) d le lt =
        in_order q (f a).0 _ (below_at (f a).0 xs j d (first _ _ h) (omega arith))
    rising q (a ∷ xs) h (suc i) zero d le lt = absurd (omega arith)
    rising q (a ∷ xs) h (suc i) (suc j) d le lt = rising q xs (second _ _ h) i j d (omega arith) (omega arith)

    -- a key that ties with q
    pub tied_rank : (q : K) (xs : List A) (i : ℕ) (d : A) → T (is_sorted R (map f xs)) → i < length xs
        → R (f (get_or xs i d)).0 q ≡ Equal → i ≡ count q (map f xs)
    tied_rank q [] i d h lt e = absurd (omega arith)
    tied_rank q (a ∷ xs) zero d h lt e =
        sym (ap (λ r. cond (is_gt r) (1 + count q (map f xs)) 0) (turned R o (f a).0 q Equal e))
    tied_rank q (a ∷ xs) (suc i) d h lt e =
        let lt' : i < length xs = omega arith in
        let next : i ≡ count q (map f xs) = tied_rank q xs i d (second _ _ h) lt' e in
        let here : suc i ≡ 1 + count q (map f xs) = omega arith in
        here ∙ sym (ap (λ r. cond (is_gt r) (1 + count q (map f xs)) 0)
        (lower_than_tied R o q (f a).0 _ (below_at (f a).0 xs i d (first _ _ h) lt') e))

    pub tied_found : (q : K) (xs : List A) (i : ℕ) (d : A) → i < length xs → R (f (get_or xs i d)).0 q ≡ Equal
        → is_some (find R q (map f xs)) ≡ true
    tied_found q [] i d lt e = absurd (omega arith)
    tied_found q (a ∷ xs) zero d lt e =
        ap (λ r. is_some (cond (is_eq r) (Some (f a).1) (find R q (map f xs)))) (turned R o (f a).0 q Equal e)
    tied_found q (a ∷ xs) (suc i) d lt e =
        elim (eq_by_cmp R q (f a).0) as (λ b. is_some (cond b (Some (f a).1) (find R q (map f xs))) ≡ true) [
          | true ↦
              refl
          | false ↦ tied_found q xs i d (omega arith) e
        ]

    -- the place between the keys below q and those above it
    pub free_rank : (q : K) (xs : List A) (i : ℕ) → i ≤ length xs → AllWithin (λ a. R (f a).0 q ≡ Less) xs 0 i
        → AllWithin (λ a. R (f a).0 q ≡ Greater) xs i (length xs)
        → (i ≡ count q (map f xs)) × (is_some (find R q (map f xs)) ≡ false)
    free_rank q [] i le low high = (omega arith, refl)
    free_rank q (a ∷ xs) zero le low high =
        let above : R q (f a).0 ≡ Less = turned R o (f a).0 q Greater (high 0 a (omega arith) (omega arith)) in
        let rest = free_rank q xs 0 (omega arith) (λ k d ge lt. absurd (omega arith))
        (λ k d ge lt. high (suc k) d (omega arith) (omega arith)) in (
          sym (ap (λ r. cond (is_gt r) (1 + count q (map f xs)) 0) above),
          ap (λ r. is_some (cond (is_eq r) (Some (f a).1) (find R q (map f xs)))) above ∙ rest.1,
        )
    free_rank q (a ∷ xs) (suc i) le low high =
        let under : R q (f a).0 ≡ Greater = turned R o (f a).0 q Less (low 0 a (omega arith) (omega arith)) in
        let rest = free_rank q xs i (omega arith) (λ k d ge lt. low (suc k) d (omega arith) (omega arith))
        (λ k d ge lt. high (suc k) d (omega arith) (omega arith)) in
        let here : suc i ≡ 1 + count q (map f xs) = let e = rest.0 in omega arith in (
          here ∙ sym (ap (λ r. cond (is_gt r) (1 + count q (map f xs)) 0) under),
          ap (λ r. is_some (cond (is_eq r) (Some (f a).1) (find R q (map f xs)))) under ∙ rest.1,
        )

    -- ---- what is done there

    pub found : (q : K) (xs : List A) (n : ℕ) (d : A) → T (is_sorted R (map f xs)) → is_some (find R q (map f xs))
        ≡ true → n ≡ count q (map f xs)
        → (n < length xs) × (find R q (map f xs) ≡ Some (f (get_or xs n d)).1)
    found q [] n d h some is = absurd (false≢true some)
    found q (a ∷ xs) zero d h some is =
        elim (R q (f a).0) as (λ r. R q (f a).0 ≡ r → is_some (cond (is_eq r) (Some (f a).1) (find R q (map f xs)))
        ≡ true → 0 ≡ cond (is_gt r) (1 + count q (map f xs)) 0
        → (0 < suc (length xs)) × (cond (is_eq r) (Some (f a).1) (find R q (map f xs)) ≡ Some (f a).1)) [
          | Less ↦ λ r some is. absurd
              (false≢true (sym (ap is_some (none_below q (map f xs) (below_less q (f a).0 (map f xs) r (first _ _ h))))
              ∙ some))
          | Equal ↦ λ r some is. (omega arith, refl)
          | Greater ↦ λ r some is. absurd (omega arith)
        ] refl some is
    found q (a ∷ xs) (suc n) d h some is =
        elim (R q (f a).0) as (λ r. is_some (cond (is_eq r) (Some (f a).1) (find R q (map f xs))) ≡ true
        → suc n ≡ cond (is_gt r) (1 + count q (map f xs)) 0
        → (suc n < suc (length xs))
        × (cond (is_eq r) (Some (f a).1) (find R q (map f xs)) ≡ Some (f (get_or xs n d)).1)) [
          | Less ↦ λ some is. absurd (omega arith)
          | Equal ↦ λ some is. absurd (omega arith)
          | Greater ↦ λ some is. let rank : n ≡ count q (map f xs) = omega arith in
              let rest : (n < length xs) × (find R q (map f xs) ≡ Some (f (get_or xs n d)).1) =
              found q xs n d (second _ _ h) some rank in (omega arith, rest.1)
        ] some is

    pub found_within : (q : K) (xs : List A) (n : ℕ) → T (is_sorted R (map f xs)) → is_some (find R q (map f xs))
        ≡ true → n ≡ count q (map f xs) → n < length xs
    found_within q [] n h some is = absurd (false≢true some)
    found_within q (a ∷ xs) n h some is = (found q (a ∷ xs) n a h some is).0

    pub put_over : ((x y : K) → R x y ≡ Equal → x ≡ y) → (b : A) (xs : List A) (n : ℕ) → T (is_sorted R (map f xs))
        → is_some (find R (f b).0 (map f xs)) ≡ true → n ≡ count (f b).0 (map f xs)
        → map f (set xs n b) ≡ put R (f b).0 (f b).1 (map f xs)
    put_over same b [] n h some is = absurd (false≢true some)
    put_over same b (a ∷ xs) zero h some is =
        let q = (f b).0 in
        elim (R q (f a).0) as (λ r. R q (f a).0 ≡ r → is_some (cond (is_eq r) (Some (f a).1) (find R q (map f xs)))
        ≡ true → 0 ≡ cond (is_gt r) (1 + count q (map f xs)) 0
        → f b ∷ map f xs ≡ by_order r (f b ∷ map f (a ∷ xs)) (((f a).0, (f b).1) ∷ map f xs) (f a
        ∷ put R q (f b).1 (map f xs))) [
          | Less ↦ λ r some is. absurd
              (false≢true (sym (ap is_some (none_below q (map f xs) (below_less q (f a).0 (map f xs) r (first _ _ h))))
              ∙ some))
          | Equal ↦ λ r some is. ap (λ k. (k, (f b).1) ∷ map f xs) (same q (f a).0 r)
          | Greater ↦ λ r some is. absurd (omega arith)
        ] refl some is
    put_over same b (a ∷ xs) (suc n) h some is =
        let q = (f b).0 in
        elim (R q (f a).0) as (λ r. is_some (cond (is_eq r) (Some (f a).1) (find R q (map f xs))) ≡ true
        → suc n ≡ cond (is_gt r) (1 + count q (map f xs)) 0
        → f a ∷ map f (set xs n b)
        ≡ by_order r (f b ∷ map f (a ∷ xs)) (((f a).0, (f b).1) ∷ map f xs) (f a ∷ put R q (f b).1 (map f xs))) [
          | Less ↦ λ some is. absurd (omega arith)
          | Equal ↦ λ some is. absurd (omega arith)
          | Greater ↦ λ some is. ap (λ xs. f a ∷ xs) (put_over same b xs n (second _ _ h) some (omega arith))
        ] some is

    pub put_between : (b : A) (xs : List A) (n : ℕ) → is_some (find R (f b).0 (map f xs)) ≡ false
        → n ≡ count (f b).0 (map f xs) → map f (insert xs n b) ≡ put R (f b).0 (f b).1 (map f xs)
    put_between b [] zero none is = refl
    put_between b [] (suc n) none is = absurd (omega arith)
    put_between b (a ∷ xs) zero none is =
        let q = (f b).0 in
        elim (R q (f a).0) as (λ r. is_some (cond (is_eq r) (Some (f a).1) (find R q (map f xs))) ≡ false
        → 0 ≡ cond (is_gt r) (1 + count q (map f xs)) 0
        → f b ∷ map f (a ∷ xs) ≡ by_order r (f b ∷ map f (a ∷ xs)) (((f a).0, (f b).1) ∷ map f xs) (f a
        ∷ put R q (f b).1 (map f xs))) [
          | Less ↦ λ none is. refl
          | Equal ↦ λ none is. absurd (true≢false none)
          | Greater ↦ λ none is. absurd (omega arith)
        ] none is
    put_between b (a ∷ xs) (suc n) none is =
        let q = (f b).0 in
        elim (R q (f a).0) as (λ r. is_some (cond (is_eq r) (Some (f a).1) (find R q (map f xs))) ≡ false
        → suc n ≡ cond (is_gt r) (1 + count q (map f xs)) 0
        → f a ∷ map f (insert xs n b)
        ≡ by_order r (f b ∷ map f (a ∷ xs)) (((f a).0, (f b).1) ∷ map f xs) (f a ∷ put R q (f b).1 (map f xs))) [
          | Less ↦ λ none is. absurd (omega arith)
          | Equal ↦ λ none is. absurd (omega arith)
          | Greater ↦ λ none is. ap (λ xs. f a ∷ xs) (put_between b xs n none (omega arith))
        ] none is

    pub taken_out : (q : K) (xs : List A) (n : ℕ) → T (is_sorted R (map f xs)) → is_some (find R q (map f xs)) ≡ true
        → n ≡ count q (map f xs) → map f (remove xs n) ≡ others q (map f xs)
    taken_out q [] n h some is = absurd (false≢true some)
    taken_out q (a ∷ xs) zero h some is =
        elim (R q (f a).0) as (λ r. R q (f a).0 ≡ r → is_some (cond (is_eq r) (Some (f a).1) (find R q (map f xs)))
        ≡ true → 0 ≡ cond (is_gt r) (1 + count q (map f xs)) 0
        → map f xs ≡ cond (not (is_eq r)) (f a ∷ others q (map f xs)) (others q (map f xs))) [
          | Less ↦ λ r some is. absurd
              (false≢true (sym (ap is_some (none_below q (map f xs) (below_less q (f a).0 (map f xs) r (first _ _ h))))
              ∙ some))
          | Equal ↦ λ r some is. sym (all_others q (map f xs) (below_tied q (f a).0 (map f xs) r (first _ _ h)))
          | Greater ↦ λ r some is. absurd (omega arith)
        ] refl some is
    taken_out q (a ∷ xs) (suc n) h some is =
        elim (R q (f a).0) as (λ r. is_some (cond (is_eq r) (Some (f a).1) (find R q (map f xs))) ≡ true
        → suc n ≡ cond (is_gt r) (1 + count q (map f xs)) 0
        → f a ∷ map f (remove xs n) ≡ cond (not (is_eq r)) (f a ∷ others q (map f xs)) (others q (map f xs))) [
          | Less ↦ λ some is. absurd (omega arith)
          | Equal ↦ λ some is. absurd (omega arith)
          | Greater ↦ λ some is. ap (λ xs. f a ∷ xs) (taken_out q xs n (second _ _ h) some (omega arith))
        ] some is

  -- all keys are below q where the last one is
  pub all_lower_by_last : (q : K) (es : List (K × X)) (d : K × X) → T (is_sorted R es) → 0 < length es
      → all_lower q es ≡ is_gt (R q (get_or es (length es - 1) d).0)
  all_lower_by_last q [] d h lt = absurd (omega arith)
  all_lower_by_last q (e ∷ []) d h lt = elim (is_gt (R q e.0)) as (λ b. (b && true) ≡ b) [ true ↦ refl | false ↦ refl ]
  all_lower_by_last q (e ∷ x ∷ es) d h lt =
      let here = get_or (x ∷ es) (length (x ∷ es) - 1) d in
      let some : 0 < length (x ∷ es) = omega arith in
      let rest : all_lower q (x ∷ es) ≡ is_gt (R q here.0) = all_lower_by_last q (x ∷ es) d (second _ _ h) some in
      let at : length (e ∷ x ∷ es) - 1 ≡ suc (length (x ∷ es) - 1) = omega arith in
      let last : (get_or (e ∷ x ∷ es) (length (e ∷ x ∷ es) - 1) d) ≡ here = ap (λ n. get_or (e ∷ x ∷ es) n d) at in
      let inside : length (x ∷ es) - 1 < length (x ∷ es) = omega arith in
      let step : R e.0 here.0 ≡ Less =
      below_at (λ (p : K × X). p) e.0 (x ∷ es) (length (x ∷ es) - 1) d
      (subst (λ l. T (below_all R e.0 l)) (sym (map-id (x ∷ es))) (first _ _ h)) inside in
      ap (λ b. is_gt (R q e.0) && b) rest
      ∙ elim (R q here.0) as (λ r. R q here.0 ≡ r → (is_gt (R q e.0) && is_gt r) ≡ is_gt r) [
        | Less ↦ λ r. elim (is_gt (R q e.0)) as (λ b. (b && false) ≡ false) [ true ↦ refl | false ↦ refl ]
        | Equal ↦ λ r. elim (is_gt (R q e.0)) as (λ b. (b && false) ≡ false) [ true ↦ refl | false ↦ refl ]
        | Greater ↦ λ r. ap (λ s. is_gt s
            && true) (turned R o e.0 q Less (o.trans e.0 here.0 q step (turned R o q here.0 Greater r)))
      ] refl
      ∙ ap (λ (p : K × X). is_gt (R q p.0)) (sym last)
