-- Lists that are sorted, each element once.
use Rattle.std.proofs.Common.{◌≡◌, ◌+◌, ◌<◌, Bool, List, [], ◌∷◌, ◌++◌, map, length, ◌∙◌, arith}
use Rattle.std.specs.List.{AllByRecursion}
use Rattle.std.specs.List.Sorted.{IsSortedBy, IsStrictlySortedBy}
use Rattle.std.specs.declared.cmp.Ordering.{Ordering}
use Rattle.std.specs.declared.cmp.Ordering.TheVariants.{Less}
use Rattle.std.proofs.lemmas.List.{length-map, get_or-map}
pub use Rattle.clip_extract.proofs.Members.{sorted_keys, entries_in_order, keys_in_order}

pub sorted_mapped : {A B : Type 0} (f : A → B) (lt : B → B → Bool) (xs : List A)
    → IsSortedBy (λ x y. lt (f x) (f y)) xs → IsSortedBy lt (map f xs)
sorted_mapped f lt [] sorted k d low inside = absurd (omega arith)
sorted_mapped f lt (x ∷ xs) sorted k d low inside =
    let more : k + 1 < length (x ∷ xs) = omega (arith, length-map (x ∷ xs) f) in
    let next = get_or-map f (x ∷ xs) (k + 1) x d more in
    let this = get_or-map f (x ∷ xs) k x d (omega arith) in
    (λ i. lt (next i) (this i)) ∙ sorted k x low more

pub all_appended : {A : Type 0} (P : A → Type 0) (xs ys : List A) → AllByRecursion P xs → AllByRecursion P ys
    → AllByRecursion P (xs ++ ys)
all_appended P [] ys left right = right
all_appended P (x ∷ xs) ys left right = (left.0, all_appended P xs ys left.1 right)

pub strict_append : {K : Type 0} (R : K → K → Ordering) (xs ys : List K) → IsStrictlySortedBy R xs
    → IsStrictlySortedBy R ys
    → AllByRecursion (λ x. AllByRecursion (λ y. R x y ≡ Less) ys) xs → IsStrictlySortedBy R (xs ++ ys)
unfolding IsStrictlySortedBy
strict_append R [] ys left right across = right
strict_append R (x ∷ xs) ys left right across =
    (all_appended (λ y. R x y ≡ Less) xs ys left.0 across.0, strict_append R xs ys left.1 right across.1)
