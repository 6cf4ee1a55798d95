-- Lists of entries whose seqs rise.
use Rattle.std.proofs.Common.{◌≡◌, ℕ, zero, suc, ◌+◌, ◌<◌, ◌≤◌, ◌⊎◌, Bool, true, false, cond, List, [], ◌∷◌, ◌++◌}
use Rattle.std.proofs.Common.{length, get_or, refl, sym, ap, subst, ◌∙◌, inl, inr, arith}
use Rattle.std.proofs.lemmas.Bool.{cases_order}
use Rattle.std.proofs.lemmas.List.{get_or_default}
use Rattle.std.proofs.lemmas.List.Elements.{All-nil, All-cons, All-head, All-tail, All-append, All-weaker}
use Rattle.std.proofs.lemmas.List.Kept.{AllPairs-cons, AllPairs-filter}
use Rattle.std.specs.List.{All, Contains, filter}
use Rattle.clip_indexed.specs.Segment.{IsRising}
use Rattle.clip_model.specs.Standing.{Standing}
use Rattle.clip_model.specs.History.{Registered}
use Rattle.clip_registry.specs.RegistryState.{numbered}

abbrev pub Below : Registered → Registered → Type 0
Below e f = e.seq < f.seq

pub rising_nil : IsRising []
rising_nil = record { rises = λ i j d lt h. absurd (omega arith) }

pub rising_cons : (r : Registered) (rs : List Registered) → All (Below r) rs → IsRising rs → IsRising (r ∷ rs)
rising_cons r rs below is = record { rises = AllPairs-cons Below r rs below is.rises }

pub rising_head : (r : Registered) (rs : List Registered) → IsRising (r ∷ rs) → All (Below r) rs
rising_head r rs is = λ k d lt. is.rises 0 (suc k) d (omega arith) (omega arith)

pub rising_tail : (r : Registered) (rs : List Registered) → IsRising (r ∷ rs) → IsRising rs
rising_tail r rs is = record { rises = λ i j d lt h. is.rises (suc i) (suc j) d (omega arith) (omega arith) }

pub rising_filter : (p : Registered → Bool) (rs : List Registered) → IsRising rs → IsRising (filter p rs)
rising_filter p rs is = record { rises = AllPairs-filter Below p rs is.rises }

pub rising_append : (n : ℕ) (xs ys : List Registered) → IsRising xs → IsRising ys → All (λ r. r.seq ≤ n) xs
    → All (λ r. n < r.seq) ys → IsRising (xs ++ ys)
rising_append n [] ys is js low high = js
rising_append n (x ∷ xs) ys is js low high =
    let small : x.seq ≤ n = All-head (λ r. r.seq ≤ n) x xs low in
    rising_cons x (xs ++ ys)
    (All-append (Below x) xs ys (rising_head x xs is)
    (All-weaker (λ r. n < r.seq) (Below x) (λ r h. omega arith) ys high))
    (rising_append n xs ys (rising_tail x xs is) js (All-tail (λ r. r.seq ≤ n) x xs low) high)

-- two members of one seq are one
pub same_seq : (rs : List Registered) (r t : Registered) → IsRising rs → Contains rs r → Contains rs t → r.seq ≡ t.seq
    → r ≡ t
same_seq rs r t is (i, first, at) (j, within, there) e =
    let here : get_or rs i r ≡ r = at in
    let that : get_or rs j r ≡ t = get_or_default rs j r t within ∙ there in
    elim (cases_order i j) [
      | inl same ↦ sym here ∙ ap (λ k. get_or rs k r) same ∙ that
      | inr (inl less) ↦
          let h : (get_or rs i r).seq < (get_or rs j r).seq = is.rises i j r less within in
          let a : (get_or rs i r).seq ≡ r.seq = ap (λ (q : Registered). q.seq) here in
          let b : (get_or rs j r).seq ≡ t.seq = ap (λ (q : Registered). q.seq) that in
          absurd (omega arith)
      | inr (inr more) ↦
          let h : (get_or rs j r).seq < (get_or rs i r).seq = is.rises j i r more first in
          let a : (get_or rs i r).seq ≡ r.seq = ap (λ (q : Registered). q.seq) here in
          let b : (get_or rs j r).seq ≡ t.seq = ap (λ (q : Registered). q.seq) that in
          absurd (omega arith)
    ]

pub numbered_high : (n : ℕ) (ss : List Standing) → All (λ r. n < r.seq) (numbered n ss)
numbered_high n [] = All-nil (λ r. n < r.seq)
numbered_high n (s ∷ ss) =
    All-cons (λ r. n < r.seq) _ (numbered (suc n) ss) (omega arith)
    (All-weaker (λ r. suc n < r.seq) (λ r. n < r.seq) (λ r h. omega arith) _ (numbered_high (suc n) ss))

pub numbered_low : (n : ℕ) (ss : List Standing) → All (λ r. r.seq ≤ n + length ss) (numbered n ss)
numbered_low n [] = All-nil (λ r. r.seq ≤ n + 0)
numbered_low n (s ∷ ss) =
    All-cons (λ r. r.seq ≤ n + suc (length ss)) _ (numbered (suc n) ss) (omega arith)
    (All-weaker (λ r. r.seq ≤ suc n + length ss) (λ r. r.seq ≤ n + suc (length ss)) (λ r h. omega arith) _
    (numbered_low (suc n) ss))

pub numbered_rising : (n : ℕ) (ss : List Standing) → IsRising (numbered n ss)
numbered_rising n [] = rising_nil
numbered_rising n (s ∷ ss) = rising_cons _ (numbered (suc n) ss) (numbered_high (suc n) ss) (numbered_rising (suc n) ss)

-- ---- members

pub contains_head : (r : Registered) (rs : List Registered) → Contains (r ∷ rs) r
contains_head r rs = (0, omega arith, refl)

pub contains_later : (q r : Registered) (rs : List Registered) → Contains rs r → Contains (q ∷ rs) r
contains_later q r rs (k, lt, at) = (suc k, omega arith, at)

pub contains_cases : (q r : Registered) (rs : List Registered) → Contains (q ∷ rs) r → (q ≡ r) ⊎ Contains rs r
contains_cases q r rs (zero, lt, at) = inl at
contains_cases q r rs (suc k, lt, at) = inr (k, omega arith, at)

pub contains_filter : (p : Registered → Bool) (r : Registered) (rs : List Registered) → p r ≡ true → Contains rs r
    → Contains (filter p rs) r
contains_filter p r [] is (k, lt, at) = absurd (omega arith)
contains_filter p r (q ∷ rs) is h =
    elim (contains_cases q r rs h) [
      | inl same ↦
          let passes : p q ≡ true = ap p same ∙ is in
          let all : cond (p q) (q ∷ filter p rs) (filter p rs) ≡ q ∷ filter p rs =
          ap (λ b. cond b (q ∷ filter p rs) (filter p rs)) passes in
          subst (λ xs. Contains xs r) (sym all)
          (subst (λ x. Contains (x ∷ filter p rs) r) (sym same) (contains_head r (filter p rs)))
      | inr later ↦
          let rest = contains_filter p r rs is later in
          elim (p q) as (λ b. Contains (cond b (q ∷ filter p rs) (filter p rs)) r) [
            | true ↦
                contains_later q r _ rest
            | false ↦ rest
          ]
    ]
