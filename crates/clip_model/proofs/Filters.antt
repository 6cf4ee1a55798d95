-- What tests keep of lists.
use Rattle.std.proofs.Common.{◌≡◌, ℕ, suc, ◌+◌, ◌≤◌, ◌||◌, Bool, true, false, cond, List, [], ◌∷◌, ◌++◌, length, map}
use Rattle.std.proofs.Common.{refl, ap, ◌∙◌, arith, IsTrue, ◌&&◌}
use Rattle.std.specs.List.{filter, list_all}

-- ---- two tests that are both passed

pub both : (a b : Bool) → a ≡ true → b ≡ true → (a && b) ≡ true
both true b h k = k
both false b h k = h

pub first : (a b : Bool) → (a && b) ≡ true → a ≡ true
first true b h = refl
first false b h = h

pub second : (a b : Bool) → (a && b) ≡ true → b ≡ true
second true b h = h
second false b h = cc

-- ---- what is kept

module _ {A : Type 0} where
  pub filter_few : (p : A → Bool) (xs : List A) → length (filter p xs) ≤ length xs
  filter_few p [] = omega arith
  filter_few p (x ∷ xs) = let rest = filter_few p xs in
      elim (p x) as (λ b. length (cond b (x ∷ filter p xs) (filter p xs)) ≤ suc (length xs)) [
        | true ↦
            omega arith
        | false ↦ omega arith
      ]

  pub filter_none : (p : A → Bool) → ((x : A) → p x ≡ false) → (xs : List A) → filter p xs ≡ []
  filter_none p none [] = refl
  filter_none p none (x ∷ xs) = ap (λ b. cond b (x ∷ filter p xs) (filter p xs)) (none x) ∙ filter_none p none xs

  pub filter_all : (p : A → Bool) → ((x : A) → p x ≡ true) → (xs : List A) → filter p xs ≡ xs
  filter_all p all [] = refl
  filter_all p all (x ∷ xs) = ap (λ b. cond b (x ∷ filter p xs) (filter p xs)) (all x)
      ∙ ap (λ ys. x ∷ ys) (filter_all p all xs)

  -- two tests, one after the other, in either order
  pub filter_swap : (p q : A → Bool) (xs : List A) → filter p (filter q xs) ≡ filter q (filter p xs)
  filter_swap p q [] = refl
  filter_swap p q (x ∷ xs) =
      elim (p x) as (λ b. p x ≡ b → filter p (cond (q x) (x ∷ filter q xs) (filter q xs))
      ≡ filter q (cond b (x ∷ filter p xs) (filter p xs))) [
        | true ↦ λ is. elim (q x)
            as (λ c. filter p (cond c (x ∷ filter q xs) (filter q xs))
            ≡ cond c (x ∷ filter q (filter p xs)) (filter q (filter p xs))) [
              | true ↦ ap (λ b. cond b (x ∷ filter p (filter q xs)) (filter p (filter q xs))) is
                  ∙ ap (λ ys. x ∷ ys) (filter_swap p q xs)
              | false ↦ filter_swap p q xs
            ]
        | false ↦ λ is. elim (q x)
            as (λ c. filter p (cond c (x ∷ filter q xs) (filter q xs)) ≡ filter q (filter p xs)) [
              | true ↦ ap (λ b. cond b (x ∷ filter p (filter q xs)) (filter p (filter q xs))) is ∙ filter_swap p q xs
              | false ↦ filter_swap p q xs
            ]
      ] refl

  -- of two tests of which no member passes both, each keeps its own of what either keeps
  pub filter_either : (p q : A → Bool) → ((x : A) → p x ≡ true → q x ≡ false) → (xs : List A)
      → length (filter p xs) + length (filter q xs) ≡ length (filter (λ x. p x || q x) xs)
  filter_either p q apart [] = refl
  filter_either p q apart (x ∷ xs) =
      let rest = filter_either p q apart xs in
      elim (p x) as (λ b. p x ≡ b
      → length (cond b (x ∷ filter p xs) (filter p xs)) + length (cond (q x) (x ∷ filter q xs) (filter q xs))
      ≡ length (cond (b || q x) (x ∷ filter (λ x. p x || q x) xs) (filter (λ x. p x || q x) xs))) [
        | true ↦ λ is. ap (λ c. suc (length (filter p xs)) + length (cond c (x ∷ filter q xs) (filter q xs)))
            (apart x is) ∙ more _ _ _ rest
        | false ↦ λ is. elim (q x) as (λ c. length (filter p xs) + length (cond c (x ∷ filter q xs) (filter q xs))
            ≡ length (cond c (x ∷ filter (λ x. p x || q x) xs) (filter (λ x. p x || q x) xs))) [
              | true ↦
                  omega arith
              | false ↦ rest
            ]
      ] refl
    where
      more : (a b c : ℕ) → a + b ≡ c → suc a + b ≡ suc c
      more a b c e = omega arith

  -- what all pass, those that are kept pass
  pub all_kept : (p q : A → Bool) (xs : List A) → IsTrue (list_all p xs) → IsTrue (list_all p (filter q xs))
  all_kept p q [] h = h
  all_kept p q (x ∷ xs) h =
      elim (q x) as (λ b. list_all p (cond b (x ∷ filter q xs) (filter q xs)) ≡ true) [
        | true ↦ both _ _ (first _ _ h) (all_kept p q xs (second _ _ h))
        | false ↦ all_kept p q xs (second _ _ h)
      ]

-- a front of a list's images is the images of a front
pub map_front : {A B : Type 0} (f : A → B) (xs : List A) (before after : List B) → map f xs ≡ before ++ after
    → (front : List A) × (back : List A) × (xs ≡ front ++ back) × (before ≡ map f front) × (after ≡ map f back)
map_front f xs [] after h = let e : after ≡ map f xs = cc in ([], xs, refl, refl, e)
map_front f [] (b ∷ before) after h = cc
map_front f (x ∷ xs) (b ∷ before) after h =
    let e : map f xs ≡ before ++ after = cc in
    let head : b ≡ f x = cc in
    let at = map_front f xs before after e in
    (x ∷ at.0, at.1, ap (λ ys. x ∷ ys) at.2, (λ i. head i ∷ at.3 i), at.4)
