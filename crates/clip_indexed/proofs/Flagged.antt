-- How many items have their flags set.
use Rattle.std.proofs.Common.{◌≡◌, ◌+◌, ◌≤◌, Bool, true, false, cond, List, [], ◌∷◌, length, length-append, arith}
use Rattle.std.specs.List.{count_by}
use Rattle.std.proofs.lemmas.List.Sums.{sum_by-cons}
use Rattle.clip_indexed.specs.Selecting.{flagged, kept_of, count_set}

-- how many flags are set, the first and those behind it
pub count_first : (flag : Bool) (flags : List Bool) → count_by (λ flag. flag) (flag ∷ flags)
    ≡ cond flag 1 0 + count_by (λ flag. flag) flags
count_first flag flags = sum_by-cons (λ (x : Bool). cond x 1 0) flag flags

-- at most as many are kept as flags are set
pub flagged_few : {A : Type 0} (flags : List Bool) (xs : List A)
    → length (flagged flags xs) ≤ count_by (λ flag. flag) flags
flagged_few [] xs = omega arith
flagged_few (flag ∷ flags) [] = omega arith
flagged_few (true ∷ flags) (x ∷ xs) = omega (arith, flagged_few flags xs, count_first true flags)
flagged_few (false ∷ flags) (x ∷ xs) = omega (arith, flagged_few flags xs, count_first false flags)

pub kept_few : {A : Type 0} (lists : List (List A)) (flags : List (List Bool)) → length (kept_of lists flags)
    ≤ count_set flags
kept_few [] flags = omega arith
kept_few (xs ∷ lists) [] = omega arith
kept_few (xs ∷ lists) (fs ∷ flags) =
    omega (
      arith,
      length-append (flagged fs xs) (kept_of lists flags),
      flagged_few fs xs,
      kept_few lists flags,
      sum_by-cons (count_by (λ (flag : Bool). flag)) fs flags,
    )
