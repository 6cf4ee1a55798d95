-- What was found of the first articles, and of the rest.
use Rattle.std.proofs.Common.{◌≡◌, ℕ, ◌-◌, List, ◌++◌, length, map, take, drop, sym, ap, ◌∙◌, arith}
use Rattle.std.proofs.lemmas.List.{length-map, length-drop, map-append, take-append-drop, take_all}

-- a list from a place on, cut out of a list that is the same
pub from_place : {B : Type 0} (n m : ℕ) (xs ys : List B) → ys ≡ xs → n ≡ m → take (length ys - n) (drop n ys)
    ≡ drop m xs
from_place n m xs ys same at =
    take_all (length ys - n) (drop n ys) (let e = length-drop n ys in omega arith) ∙ ap (drop n) same
    ∙ ap (λ k. drop k xs) at

module _ {A V B : Type 0} (f : A → V) (g : B → V) where
  whole : (found rest : List A) (xs : List B) → map f found ≡ map g (take (length found) xs)
      → map f rest ≡ map g (drop (length found) xs) → map f (found ++ rest) ≡ map g xs
  whole found rest xs first second =
      map-append f found rest ∙ ap (λ v. v ++ map f rest) first ∙ ap (λ v. map g (take (length found) xs) ++ v) second
      ∙ sym (map-append g (take (length found) xs) (drop (length found) xs))
      ∙ ap (map g) (take-append-drop (length found) xs)

  whole_length : (found rest : List A) (xs : List B) → map f found ≡ map g (take (length found) xs)
      → map f rest ≡ map g (drop (length found) xs) → length (found ++ rest) ≡ length xs
  whole_length found rest xs first second = sym (length-map (found ++ rest) f)
      ∙ ap length (whole found rest xs first second) ∙ length-map xs g

  -- with the rest, all that is due was found
  pub with_rest : (found rest : List A) (xs : List B) → map f found ≡ map g (take (length found) xs)
      → map f rest ≡ map g (drop (length found) xs) → map f (found ++ rest) ≡ map g (take (length (found ++ rest)) xs)
  with_rest found rest xs first second =
      whole found rest xs first second
      ∙ ap (map g) (sym (take_all (length (found ++ rest)) xs (let e = whole_length found rest xs first second in
      omega arith)))
