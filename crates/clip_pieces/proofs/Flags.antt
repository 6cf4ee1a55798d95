-- The numbers of flags that are set.
use Rattle.std.proofs.Common.{◌≡◌, ℕ, zero, suc, ◌+◌, Bool, true, false, List, [], ◌∷◌, ◌++◌, length, replicate, refl}
use Rattle.std.proofs.Common.{ap, ◌∙◌, arith}
use Rattle.clip_pieces.specs.Marked.{marked_from}

pub marked-append : (first : ℕ) (xs ys : List Bool) → marked_from first (xs ++ ys)
    ≡ marked_from first xs ++ marked_from (first + length xs) ys
marked-append first [] ys = ap (λ n. marked_from n ys) (omega arith)
marked-append first (x ∷ xs) ys =
    let far : first + 1 + length xs ≡ first + suc (length xs) = omega arith in
    by_flag x (marked-append (first + 1) xs ys ∙ ap (λ n. marked_from (first + 1) xs ++ marked_from n ys) far)
  where
    by_flag : (b : Bool) → marked_from (first + 1) (xs ++ ys)
        ≡ marked_from (first + 1) xs ++ marked_from (first + suc (length xs)) ys
        → marked_from first (b ∷ (xs ++ ys)) ≡ marked_from first (b ∷ xs) ++ marked_from (first + suc (length xs)) ys
    by_flag true rest = ap (λ ns. first ∷ ns) rest
    by_flag false rest = rest

pub none_marked : (first count : ℕ) → marked_from first (replicate count false) ≡ []
none_marked first zero = refl
none_marked first (suc count) = none_marked (first + 1) count
