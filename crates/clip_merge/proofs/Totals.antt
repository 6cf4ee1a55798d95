-- Sums over segments.
use Rattle.std.proofs.Common.{◌≡◌, ℕ, List, [], ◌∷◌, length, map, refl, arith}
use Rattle.std.proofs.lemmas.List.{length-append}
use Rattle.std.proofs.lemmas.List.Sums.{sum_by-cons}
use Rattle.std.specs.List.{sum_by}
use Rattle.clip_indexed.specs.Segment.{all_entries}
use Rattle.clip_model.specs.History.{Registered}

pub sum_of_map : {X Y : Type 0} (g : X → Y) (f : Y → ℕ) (xs : List X) → sum_by f (map g xs) ≡ sum_by (λ x. f (g x)) xs
sum_of_map g f [] = refl
sum_of_map g f (x ∷ xs) =
    omega (arith, sum_by-cons f (g x) (map g xs), sum_by-cons (λ y. f (g y)) x xs, sum_of_map g f xs)

-- all entries are as many as those of each segment together
pub entries_together : (segments : List (List Registered)) → length (all_entries segments) ≡ sum_by length segments
entries_together [] = refl
entries_together (s ∷ segments) =
    omega (arith, length-append s (all_entries segments), sum_by-cons length s segments, entries_together segments)
