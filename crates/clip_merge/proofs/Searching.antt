-- A binary search among seqs that rise.
use Rattle.std.proofs.Common.{◌≡◌, ℕ, ◌<◌, ◌≤◌, true, false, List, length, get_or, nat_cmp, sym, subst, arith, inl, inr}
use Rattle.std.proofs.lemmas.Bool.{cases_lt}
use Rattle.std.proofs.lemmas.Bool.Decides.{nat_tests}
use Rattle.std.proofs.lemmas.List.{get_or_default}
use Rattle.std.proofs.lemmas.List.Folds.{list_any_at, list_any_none}
use Rattle.std.proofs.lemmas.List.Sorted.{searched}
use Rattle.std.specs.Prelude.{Result, Ok, Err, is_ok, nat_eq}
use Rattle.std.specs.List.Sorted.{IsBinarySearchResult}
use Rattle.clip_merge.specs.Live.{AreRising, names}

-- an earlier one is no higher than a later one
in_order : (seqs : List ℕ) → AreRising seqs → (i j : ℕ) → i ≤ j → j < length seqs → get_or seqs i 0 ≤ get_or seqs j 0
in_order seqs are i j le inside = elim (cases_lt i j) [
  | inl before ↦ let below = are.rises i j 0 before inside in omega arith
  | inr same ↦ let e : i ≡ j = omega arith in subst (λ k. get_or seqs i 0 ≤ get_or seqs k 0) e (omega arith)
]

same_passes : (a b : ℕ) → a ≡ b → nat_eq a b ≡ true
same_passes a b h = grind (arith, nat_tests)

lower_fails : (a b : ℕ) → a < b → nat_eq a b ≡ false
lower_fails a b h = grind (arith, nat_tests)

higher_fails : (a b : ℕ) → b < a → nat_eq a b ≡ false
higher_fails a b h = grind (arith, nat_tests)

-- the search finds a place where the seq is one of them, and none where it isn't
pub found_is_named : (seqs : List ℕ) (seq : ℕ) (r : Result ℕ ℕ) → AreRising seqs
    → IsBinarySearchResult (λ s. nat_cmp s seq) seqs r → is_ok r ≡ names seqs seq
found_is_named seqs seq (Ok i) are found =
    let at = searched seqs seq (Ok i) found (in_order seqs are) in
    sym (list_any_at (λ s. nat_eq s seq) seqs i 0 at.0 (same_passes (get_or seqs i 0) seq at.1))
found_is_named seqs seq (Err i) are found =
    let around = searched seqs seq (Err i) found (in_order seqs are) in
    sym (list_any_none (λ s. nat_eq s seq) seqs (λ k d inside. elim (cases_lt k i) [
      | inl before ↦ lower_fails (get_or seqs k d) seq (let low = around.1 k before in
          rw (get_or_default seqs k d 0 inside) low)
      | inr after ↦ higher_fails (get_or seqs k d) seq (let high = around.2 k after inside in
          rw (get_or_default seqs k d 0 inside) high)
    ]))
