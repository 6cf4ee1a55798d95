-- Entries found by their seqs.
use Rattle.std.proofs.Common.{◌≡◌, ℕ, ◌<◌, ◌≤◌, ◌-◌, subst, List, [], ◌∷◌, length, get_or, Some, Ok, Err, slice_get}
use Rattle.std.proofs.Common.{nat_cmp, sym, ap, ◌∙◌, inl, inr, arith}
use Rattle.std.specs.List.Sorted.{IsBinarySearchResult}
use Rattle.std.proofs.lemmas.Bool.{cases_lt, cases_order}
use Rattle.std.proofs.lemmas.List.{get_or-map, length-map}
use Rattle.std.proofs.lemmas.List.Sorted.{searched}
use Rattle.std.proofs.lemmas.Option.{slice_get-get_or, slice_get_within, get_or_from_slice_get}
use Rattle.clip_model.specs.History.{Registered}
use Rattle.clip_indexed.specs.Segment.{IsRising, seqs_of}

-- the seqs of entries that rise
pub seqs_sorted : (es : List Registered) → IsRising es → (i j : ℕ) → i ≤ j → j < length (seqs_of es)
    → get_or (seqs_of es) i 0 ≤ get_or (seqs_of es) j 0
seqs_sorted [] is i j le lt = absurd (omega arith)
seqs_sorted (e ∷ es) is i j le lt =
    let all = e ∷ es in
    let long = length-map all (λ (r : Registered). r.seq) in
    let here = get_or-map (λ (r : Registered). r.seq) all i e 0 (omega arith) in
    let there = get_or-map (λ (r : Registered). r.seq) all j e 0 (omega arith) in
    elim (cases_order i j) [
      | inl same ↦ let equal = ap (λ k. get_or (seqs_of all) k 0) same in omega arith
      | inr (inl less) ↦ let rises = is.rises i j e less (omega arith) in omega arith
      | inr (inr more) ↦ absurd (omega arith)
    ]

module _ (es : List Registered) (is : IsRising es) (seqs : List ℕ) (are : seqs ≡ seqs_of es) (seq : ℕ) where
  pub seq_found : (i : ℕ) → IsBinarySearchResult (λ y. nat_cmp y seq) seqs (Ok i) → slice_get (seqs_of es) i ≡ Some seq
  seq_found i found =
      let at = searched (seqs_of es) seq (Ok i)
      (subst (λ ss. IsBinarySearchResult (λ y. nat_cmp y seq) ss (Ok i)) are found) (seqs_sorted es is) in
      slice_get-get_or (seqs_of es) i 0 at.0 ∙ ap Some at.1

  pub seq_missing : (i : ℕ) → IsBinarySearchResult (λ y. nat_cmp y seq) seqs (Err i) → (position : ℕ)
      → slice_get (seqs_of es) position ≡ Some seq → ⊥
  seq_missing i missing position there =
      let at = searched (seqs_of es) seq (Err i)
      (subst (λ ss. IsBinarySearchResult (λ y. nat_cmp y seq) ss (Err i)) are missing) (seqs_sorted es is) in
      let within = slice_get_within (seqs_of es) position seq there in
      let here = get_or_from_slice_get (seqs_of es) position seq 0 there in
      elim (cases_lt position i) [
        | inl before ↦ let low = at.1 position before in omega arith
        | inr after ↦ let high = at.2 position after within in omega arith
      ]

  pub seq_above : (last : ℕ) → slice_get seqs (length seqs - 1) ≡ Some last → last < seq → (position : ℕ)
      → slice_get (seqs_of es) position ≡ Some seq → ⊥
  seq_above last end low position there =
      let within = slice_get_within (seqs_of es) position seq there in
      let here = get_or_from_slice_get (seqs_of es) position seq 0 there in
      let long = ap length are in
      let final = get_or_from_slice_get (seqs_of es) (length (seqs_of es) - 1) last 0
      (ap (λ ss. slice_get ss (length ss - 1)) (sym are) ∙ end) in
      let sorted = seqs_sorted es is position (length (seqs_of es) - 1) (omega arith) (omega arith) in
      omega arith
