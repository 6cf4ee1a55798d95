-- What is left of a list that is read from a place on.
use Rattle.std.proofs.Common.{◌≡◌, ℕ, zero, suc, ◌+◌, ◌<◌, List, [], ◌∷◌, length, drop, Option, Some, None, slice_get}
use Rattle.std.proofs.Common.{Bor, sym, ap, ◌∙◌, arith, add-one}
use Rattle.std.specs.Option.{option_copied}
use Rattle.std.specs.Map.Iter.{TakesFirst, deref}

-- the item at a place is the first of those from it
first_left : {X : Type 0} (xs : List X) (place : ℕ) (x : X) → slice_get xs place ≡ Some x
    → drop place xs ≡ x ∷ drop (suc place) xs
first_left [] place x e = cc
first_left (y ∷ xs) zero x e = let same : y ≡ x = cc in ap (λ z. z ∷ xs) same
first_left (y ∷ xs) (suc place) x e = first_left xs place x e

none_past : {X : Type 0} (xs : List X) (place : ℕ) → slice_get xs place ≡ None → place < length xs → ⊥
none_past [] place e l = omega arith
none_past (y ∷ xs) zero e l = cc
none_past (y ∷ xs) (suc place) e l = none_past xs place e (omega arith)

-- an iterator takes the item at its place
pub takes : {X : Type 0} (xs : List X) (place : ℕ) (item : Option (Bor X)) → option_copied item ≡ slice_get xs place
    → place < length xs → TakesFirst deref (drop place xs) item (drop (place + 1) xs)
takes xs place (Some item) e l = first_left xs place item.now (sym e)
    ∙ ap (λ p. item.now ∷ drop p xs) (sym (add-one place))
takes xs place None e l = absurd (none_past xs place (sym e) l)
