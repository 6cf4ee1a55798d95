-- Lists in which each thing has a number of its own.
use Rattle.std.proofs.Common.{◌≡◌, ℕ, zero, suc, ◌+◌, ◌<◌, Bool, true, false, not, cond, ◌||◌, ◌==◌, eqb, nat_lt}
use Rattle.std.proofs.Common.{if◌then◌else◌, List, [], ◌∷◌, ◌++◌, length, get_or, set, take, drop, map, Option, Some}
use Rattle.std.proofs.Common.{None, is_some, refl, sym, ap, subst, ◌∙◌, arith}
use Rattle.std.specs.List.{AllByRecursion, IsDistinct, list_any, filter, remove, position, position_or_len}
use Rattle.std.specs.Map.{lookup}
use Rattle.std.proofs.lemmas.Bool.Decides.{nat_tests}
use Rattle.std.proofs.lemmas.Bool.{eq-eqb, eqb-true, false≢true}
use Rattle.std.proofs.lemmas.List.Quantifiers.{position-Some}
use Rattle.std.proofs.lemmas.List.{take-set, drop-set-lt, get_or-set_same}
use Rattle.std.proofs.lemmas.Map.Made.{is_some-lookup}
use Rattle.std.proofs.Math.Seq.{map-set_same}

-- ---- numbers

-- numbers that differ do so in either order
other : (m n : ℕ) → eqb m n ≡ false → eqb n m ≡ false
other m n h = elim (eqb n m) as (λ b. eqb n m ≡ b → b ≡ false) [
  | true ↦
      λ e. absurd (false≢true (sym h ∙ eq-eqb m n (sym (eqb-true n m e))))
  | false ↦ λ e. refl
] refl

none_is : (n : ℕ) (ns : List ℕ) → list_any (λ m. m == n) ns ≡ false → AllByRecursion (λ m. eqb m n ≡ false) ns
none_is n [] h = tt
none_is n (m ∷ ns) h = elim (eqb m n) as (λ b. eqb m n ≡ b → (b || list_any (λ m. m == n) ns) ≡ false
    → AllByRecursion (λ m. eqb m n ≡ false) (m ∷ ns)) [
      | true ↦ λ e f. absurd (false≢true (sym f))
      | false ↦
          λ e f. (e, none_is n ns f)
    ] refl h

apart_push : (P : ℕ → Type 0) (n : ℕ) (ns : List ℕ) → AllByRecursion P ns → P n → AllByRecursion P (ns ++ n ∷ [])
apart_push P n [] all here = (here, tt)
apart_push P n (m ∷ ns) all here = (all.0, apart_push P n ns all.1 here)

-- no numbers
pub distinct_none : (ns : List ℕ) → ns ≡ [] → IsDistinct eqb ns
unfolding IsDistinct
distinct_none [] is = tt
distinct_none (n ∷ ns) is = cc

-- one number more
pub distinct_push : (n : ℕ) (ns : List ℕ) → IsDistinct eqb ns → list_any (λ m. m == n) ns ≡ false
    → IsDistinct eqb (ns ++ n ∷ [])
unfolding IsDistinct
distinct_push n [] is new = (tt, tt)
distinct_push n (m ∷ ns) is new =
    let apart = none_is n (m ∷ ns) new in
    let tail : list_any (λ m. m == n) ns ≡ false =
    elim (eqb m n) as (λ b. (b || list_any (λ m. m == n) ns) ≡ false → list_any (λ m. m == n) ns ≡ false) [
      | true ↦
          λ f. absurd (false≢true (sym f))
      | false ↦ λ f. f
    ] new in
    (apart_push (λ k. eqb m k ≡ false) n ns is.0 apart.0, distinct_push n ns is.1 tail)

apart_filter : (P : ℕ → Type 0) (p : ℕ → Bool) (ns : List ℕ) → AllByRecursion P ns → AllByRecursion P (filter p ns)
apart_filter P p [] all = tt
apart_filter P p (m ∷ ns) all =
    elim (p m) as (λ b. AllByRecursion P (cond b (m ∷ filter p ns) (filter p ns))) [
      | true ↦
          (all.0, apart_filter P p ns all.1)
      | false ↦ apart_filter P p ns all.1
    ]

-- fewer numbers
pub distinct_filter : (p : ℕ → Bool) (ns : List ℕ) → IsDistinct eqb ns → IsDistinct eqb (filter p ns)
unfolding IsDistinct
distinct_filter p [] is = tt
distinct_filter p (m ∷ ns) is =
    elim (p m) as (λ b. IsDistinct eqb (cond b (m ∷ filter p ns) (filter p ns))) [
      | true ↦
          (apart_filter (λ k. eqb m k ≡ false) p ns is.0, distinct_filter p ns is.1)
      | false ↦ distinct_filter p ns is.1
    ]

less_zero : (n : ℕ) → nat_lt 0 (suc n) ≡ true
less_zero n = grind (arith, nat_tests)

less_suc : (i n : ℕ) → nat_lt (1 + i) (suc n) ≡ nat_lt i n
less_suc i n = grind (arith, nat_tests)

-- ---- things

module _ {X : Type 0} where
  abbrev pub numbers : List (ℕ × X) → List ℕ
  numbers xs = map (λ x. x.0) xs

  any_place : (n : ℕ) (xs : List (ℕ × X)) → list_any (λ m. m == n) (numbers xs)
      ≡ nat_lt (position_or_len (λ x. x.0 == n) xs) (length xs)
  any_place n [] = refl
  any_place n (x ∷ xs) =
      elim (eqb x.0 n) as (λ b. (b || list_any (λ m. m == n) (numbers xs))
      ≡ nat_lt (cond (not b) (1 + position_or_len (λ x. x.0 == n) xs) 0) (suc (length xs))) [
        | true ↦ sym (less_zero (length xs))
        | false ↦ any_place n xs ∙ sym (less_suc (position_or_len (λ x. x.0 == n) xs) (length xs))
      ]

  -- whether a number stands somewhere is what a search for its place tells
  pub any_is : (n : ℕ) (xs ys : List (ℕ × X)) (place : Option ℕ) → ys ≡ xs → place ≡ position (λ x. x.0 == n) ys
      → list_any (λ m. m == n) (numbers xs) ≡ is_some place
  any_is n xs ys place same found =
      let first = position_or_len (λ x. x.0 == n) xs in
      any_place n xs
      ∙ elim (nat_lt first (length xs)) as (λ b. b ≡ is_some (cond b (Some first) None)) [ true ↦ refl | false ↦ refl ]
      ∙ ap (λ zs. is_some (position (λ (x : ℕ × X). x.0 == n) zs)) (sym same) ∙ ap is_some (sym found)

  pub lookup_is : (n : ℕ) (xs ys : List (ℕ × X)) (place : Option ℕ) → ys ≡ xs → place ≡ position (λ x. x.0 == n) ys
      → is_some (lookup (λ m. m == n) xs) ≡ is_some place
  lookup_is n xs ys place same found = is_some-lookup (λ m. m == n) xs ∙ any_is n xs ys place same found

  -- The thing of this number stands at the place.
  pub record Stands (n i : ℕ) (x : ℕ × X) (xs : List (ℕ × X)) : Type 0 where
    pub within : i < length xs
    pub is : x ≡ get_or xs i x
    pub number : x.0 ≡ n

  stands_in : (n i : ℕ) (x : ℕ × X) (xs : List (ℕ × X)) → position (λ x. x.0 == n) xs ≡ Some i → x ≡ get_or xs i x
      → Stands n i x xs
  stands_in n i x xs found is =
      let there = position-Some (λ y. y.0 == n) xs i x found in
      record { within = there.0; is = is; number = ap (λ y. y.0) is ∙ eqb-true _ n there.1 }

  pub stands : (n i : ℕ) (x : ℕ × X) (xs ys : List (ℕ × X)) (place : Option ℕ) → ys ≡ xs
      → place ≡ position (λ x. x.0 == n) ys → place ≡ Some i → x ≡ get_or xs i x → Stands n i x xs
  stands n i x xs ys place same found at is =
      stands_in n i x xs (ap (position (λ x. x.0 == n)) (sym same) ∙ sym found ∙ at) is

  -- what stands at a place of a list whose head has another number
  apart_at : (m n i : ℕ) (d : ℕ × X) (xs : List (ℕ × X)) → AllByRecursion (λ k. eqb m k ≡ false) (numbers xs)
      → i < length xs → (get_or xs i d).0 ≡ n → eqb m n ≡ false
  apart_at m n i d [] all lt is = absurd (omega arith)
  apart_at m n zero d (x ∷ xs) all lt is = subst (λ k. eqb m k ≡ false) is all.0
  apart_at m n (suc i) d (x ∷ xs) all lt is = apart_at m n i d xs all.1 (omega arith) is

  -- all but the number stay, and nothing changes, where it is not there
  filter_apart : (n : ℕ) (xs : List (ℕ × X)) → AllByRecursion (λ k. eqb n k ≡ false) (numbers xs)
      → filter (λ x. not (x.0 == n)) xs ≡ xs
  filter_apart n [] all = refl
  filter_apart n (x ∷ xs) all =
      ap (λ b. cond (not b) (x ∷ filter (λ y. not (y.0 == n)) xs) (filter (λ y. not (y.0 == n)) xs))
      (other n x.0 all.0) ∙ ap (λ r. x ∷ r) (filter_apart n xs all.1)

  map_apart : (n : ℕ) (f : X → X) (xs : List (ℕ × X)) → AllByRecursion (λ k. eqb n k ≡ false) (numbers xs)
      → map (λ x. if x.0 == n then (x.0, f x.1) else x) xs ≡ xs
  map_apart n f [] all = refl
  map_apart n f (x ∷ xs) all =
      ap (λ b. (if b then (x.0, f x.1) else x) ∷ map (λ x. if x.0 == n then (x.0, f x.1) else x) xs)
      (other n x.0 all.0) ∙ ap (λ r. x ∷ r) (map_apart n f xs all.1)

  lookup_at : (n i : ℕ) (d : ℕ × X) (xs : List (ℕ × X)) → IsDistinct eqb (numbers xs) → i < length xs
      → (get_or xs i d).0 ≡ n → lookup (λ m. m == n) xs ≡ Some (get_or xs i d).1
  unfolding IsDistinct
  lookup_at n i d [] distinct lt is = absurd (omega arith)
  lookup_at n zero d (x ∷ xs) distinct lt is = ap (λ b. cond b (Some x.1) (lookup (λ m. m == n) xs)) (eq-eqb x.0 n is)
  lookup_at n (suc i) d (x ∷ xs) distinct lt is =
      ap (λ b. cond b (Some x.1) (lookup (λ m. m == n) xs)) (apart_at x.0 n i d xs distinct.0 (omega arith) is)
      ∙ lookup_at n i d xs distinct.1 (omega arith) is

  -- without the thing of a number
  filter_at : (n i : ℕ) (d : ℕ × X) (xs : List (ℕ × X)) → IsDistinct eqb (numbers xs) → i < length xs
      → (get_or xs i d).0 ≡ n → filter (λ x. not (x.0 == n)) xs ≡ remove xs i
  unfolding IsDistinct
  filter_at n i d [] distinct lt is = absurd (omega arith)
  filter_at n zero d (x ∷ xs) distinct lt is =
      ap (λ b. cond (not b) (x ∷ filter (λ y. not (y.0 == n)) xs) (filter (λ y. not (y.0 == n)) xs)) (eq-eqb x.0 n is)
      ∙ filter_apart n xs (subst (λ m. AllByRecursion (λ k. eqb m k ≡ false) (numbers xs)) is distinct.0)
  filter_at n (suc i) d (x ∷ xs) distinct lt is =
      ap (λ b. cond (not b) (x ∷ filter (λ y. not (y.0 == n)) xs) (filter (λ y. not (y.0 == n)) xs))
      (apart_at x.0 n i d xs distinct.0 (omega arith) is)
      ∙ ap (λ r. x ∷ r) (filter_at n i d xs distinct.1 (omega arith) is)

  numbers_filter : (p : ℕ → Bool) (xs : List (ℕ × X)) → numbers (filter (λ x. p x.0) xs) ≡ filter p (numbers xs)
  numbers_filter p [] = refl
  numbers_filter p (x ∷ xs) =
      elim (p x.0) as (λ b. numbers (cond b (x ∷ filter (λ y. p y.0) xs) (filter (λ y. p y.0) xs))
      ≡ cond b (x.0 ∷ filter p (numbers xs)) (filter p (numbers xs))) [
        | true ↦ ap (λ r. x.0 ∷ r) (numbers_filter p xs)
        | false ↦ numbers_filter p xs
      ]

  -- with another thing under its number
  map_at : (n i : ℕ) (d : ℕ × X) (f : X → X) (xs : List (ℕ × X)) → IsDistinct eqb (numbers xs) → i < length xs
      → (get_or xs i d).0 ≡ n
      → map (λ x. if x.0 == n then (x.0, f x.1) else x) xs ≡ set xs i ((get_or xs i d).0, f (get_or xs i d).1)
  unfolding IsDistinct
  map_at n i d f [] distinct lt is = absurd (omega arith)
  map_at n zero d f (x ∷ xs) distinct lt is =
      ap (λ b. (if b then (x.0, f x.1) else x) ∷ map (λ x. if x.0 == n then (x.0, f x.1) else x) xs) (eq-eqb x.0 n is)
      ∙ ap (λ r. (x.0, f x.1) ∷ r)
      (map_apart n f xs (subst (λ m. AllByRecursion (λ k. eqb m k ≡ false) (numbers xs)) is distinct.0))
  map_at n (suc i) d f (x ∷ xs) distinct lt is =
      ap (λ b. (if b then (x.0, f x.1) else x) ∷ map (λ x. if x.0 == n then (x.0, f x.1) else x) xs)
      (apart_at x.0 n i d xs distinct.0 (omega arith) is)
      ∙ ap (λ r. x ∷ r) (map_at n i d f xs distinct.1 (omega arith) is)

  -- ---- the thing of a number

  module _ {n i : ℕ} {x : ℕ × X} {xs : List (ℕ × X)} (distinct : IsDistinct eqb (numbers xs)) (at : Stands n i x xs)
    where
      number_there : (get_or xs i x).0 ≡ n
      number_there = ap (λ y. y.0) (sym at.is) ∙ at.number

      pub looked_up : lookup (λ m. m == n) xs ≡ Some x.1
      looked_up = lookup_at n i x xs distinct at.within number_there ∙ ap (λ y. Some y.1) (sym at.is)

      pub removed : remove xs i ≡ filter (λ y. not (y.0 == n)) xs
      removed = sym (filter_at n i x xs distinct at.within number_there)

      pub removed_numbers : numbers (remove xs i) ≡ filter (λ m. not (m == n)) (numbers xs)
      removed_numbers = ap numbers removed ∙ numbers_filter (λ m. not (m == n)) xs

      pub removed_distinct : IsDistinct eqb (numbers (remove xs i))
      removed_distinct = subst (IsDistinct eqb) (sym removed_numbers)
          (distinct_filter (λ m. not (m == n)) (numbers xs) distinct)

      pub changed : (f : X → X) → set xs i (x.0, f x.1) ≡ map (λ y. if y.0 == n then (y.0, f y.1) else y) xs
      changed f = ap (λ (y : ℕ × X). set xs i (y.0, f y.1)) at.is
          ∙ sym (map_at n i x f xs distinct at.within number_there)

      pub changed_numbers : (y : X) → numbers (set xs i (x.0, y)) ≡ numbers xs
      changed_numbers y = map-set_same (λ z. z.0) xs i (x.0, y) x (ap (λ z. z.0) at.is)

      pub changed_distinct : (y : X) → IsDistinct eqb (numbers (set xs i (x.0, y)))
      changed_distinct y = subst (IsDistinct eqb) (sym (changed_numbers y)) distinct

      -- what was put under the number is taken out
      pub changed_removed : (y : X) → remove (set xs i (x.0, y)) i ≡ remove xs i
      changed_removed y = ap (λ ys. ys ++ drop (suc i) (set xs i (x.0, y))) (take-set xs i (x.0, y))
          ∙ ap (λ ys. take i xs ++ ys) (drop-set-lt (suc i) xs i (x.0, y) (omega arith))

      pub changed_there : (y : X) (z : ℕ × X) → z ≡ get_or (set xs i (x.0, y)) i z → z ≡ (x.0, y)
      changed_there y z is = is ∙ get_or-set_same xs i (x.0, y) z at.within
