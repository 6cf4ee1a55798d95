-- Registered queries by their ids.
use Rattle.std.proofs.Common.{◌≡◌, ℕ, suc, ◌<◌, Bool, true, false, cond, List, [], ◌∷◌, map, length, get_or}
use Rattle.std.proofs.Common.{Contains, IsPermutation, refl, sym, ap, ◌∙◌, arith, Option, Some, None}
use Rattle.std.specs.List.{IsDistinct}
use Rattle.std.specs.List.Sorted.{IsSortedByKey}
use Rattle.std.specs.Map.{keys_of}
use Rattle.std.specs.Ordering.{eq_by_cmp, is_lt}
use Rattle.std.specs.Cmp.Lexicographic.{nat_list_cmp_total}
use Rattle.std.specs.Cmp.{eq_by_cmp_equiv}
use Rattle.std.specs.FinMap as finite
use Rattle.std.specs.FinMap.Entries.{find, is_sorted}
use Rattle.std.proofs.lemmas.List.{length-map, get_or-map}
use Rattle.std.proofs.lemmas.List.Sorted.{IsPermutation-map}
use Rattle.std.proofs.lemmas.Map.Keys.{IsDistinct-from_apart, IsDistinct-IsPermutation}
use Rattle.std.proofs.lemmas.Map.Views.{lookup-from_Contains}
use Rattle.clip_words.specs.Order.{bytes_cmp}
use Rattle.clip_model.specs.History.{Registered, replay}
use Rattle.clip_model.proofs.ById.{bytes_same}
use Rattle.clip_indexed.specs.Segment.{IsRising}
use Rattle.clip_registry.specs.RegistryState.{RegistryState}
use Rattle.clip_terms.proofs.Strict.{sorted_mapped, sorted_keys}
use Rattle.clip_match.specs.Candidates.{AreRegistered}
use Rattle.clip_match.proofs.Sorted.{strict_from_distinct, find_lookup}

abbrev pub same_id : List ℕ → List ℕ → Bool
same_id = eq_by_cmp bytes_cmp

-- a registered query under its id
abbrev pub with_id : Registered → List ℕ × Registered
with_id r = (r.standing.id, r)

abbrev pub by_id : List Registered → List (List ℕ × Registered)
by_id rs = map with_id rs

abbrev pub ids : List Registered → List (List ℕ)
ids rs = keys_of (by_id rs)

pub same_Some : {A : Type 0} {x y : A} → Some x ≡ Some y → x ≡ y
same_Some h = cc

pub none_some : {A : Type 0} {x : A} → None ≡ Some x → ⊥
none_some h = cc

pub same_option : {A : Type 0} (a b : Option A) → ((x : A) → a ≡ Some x → b ≡ Some x)
    → ((x : A) → b ≡ Some x → a ≡ Some x) → a ≡ b
same_option (Some x) b f g = sym (f x refl)
same_option None (Some y) f g = g y refl
same_option None None f g = refl

-- ---- the ids of registered queries

id_at : (rs : List Registered) (i : ℕ) (d : List ℕ) (r : Registered) → i < length rs
    → get_or (ids rs) i d ≡ (get_or rs i r).standing.id
id_at rs i d r inside =
    get_or-map (λ (e : List ℕ × Registered). e.0) (by_id rs) i (with_id r) d (omega (arith, length-map rs with_id))
    ∙ ap (λ (e : List ℕ × Registered). e.0) (get_or-map with_id rs i r (with_id r) inside)

length_ids : (rs : List Registered) → length (ids rs) ≡ length rs
length_ids rs = length-map (by_id rs) (λ (e : List ℕ × Registered). e.0) ∙ length-map rs with_id

-- no two of them have one id
ids_differ : (state : RegistryState) (rs : List Registered) → AreRegistered state rs → IsRising rs
    → IsDistinct same_id (ids rs)
ids_differ state [] registered rising = IsDistinct-from_apart same_id [] (λ i j d less inside. absurd (omega arith))
ids_differ state (r ∷ rs) registered rising = IsDistinct-from_apart same_id (ids (r ∷ rs)) (λ i j d less inside.
    let within : j < length (r ∷ rs) = omega (arith, length_ids (r ∷ rs)) in
    let a = get_or (r ∷ rs) i r in
    let b = get_or (r ∷ rs) j r in
    let first = id_at (r ∷ rs) i d r (omega arith) in
    let second = id_at (r ∷ rs) j d r within in
    (λ k. same_id (first k) (second k))
    ∙ apart a b (registered i r (omega arith)) (registered j r within) (rising.rises i j r less within))
  where
    apart : (a b : Registered) → finite.get (replay state.history) a.standing.id ≡ Some a
        → finite.get (replay state.history) b.standing.id ≡ Some b → a.seq < b.seq
        → same_id a.standing.id b.standing.id ≡ false
    apart a b here there less =
        elim (same_id a.standing.id b.standing.id) as (λ t. same_id a.standing.id b.standing.id ≡ t → t ≡ false) [
          | true ↦ λ tied.
              let same : a ≡ b = same_Some (sym here ∙ ap (finite.get (replay state.history)) (bytes_same _ _ tied)
              ∙ there) in
              let seqs : a.seq ≡ b.seq = ap (λ (r : Registered). r.seq) same in
              absurd (omega arith)
          | false ↦ λ _. refl
        ] refl

abbrev id_of : List ℕ × Registered → List ℕ
id_of e = e.0

-- nor where they stand in another order
pub distinct_ids : (state : RegistryState) (found rs : List Registered) → AreRegistered state found → IsRising found
    → IsPermutation found rs → IsDistinct same_id (ids rs)
distinct_ids state found rs registered rising moved =
    IsDistinct-IsPermutation same_id (eq_by_cmp_equiv nat_list_cmp_total).symm (ids found) (ids rs)
    (IsPermutation-map id_of (by_id found) (by_id rs) (IsPermutation-map with_id found rs moved))
    (ids_differ state found registered rising)

-- sorted by ids that differ, they are in order under them
pub sorted_under_ids : (rs : List Registered) → IsSortedByKey (λ r. r.standing.id) bytes_cmp rs
    → IsDistinct same_id (ids rs) → is_sorted bytes_cmp (by_id rs) ≡ true
sorted_under_ids rs sorted distinct =
    let sorted_ids =
    sorted_mapped id_of (λ x y. is_lt (bytes_cmp x y)) (by_id rs)
    (sorted_mapped with_id (λ x y. is_lt (bytes_cmp x.0 y.0)) rs sorted) in
    sorted_keys bytes_cmp (by_id rs) (strict_from_distinct nat_list_cmp_total (ids rs) sorted_ids distinct)

-- ---- what is found by an id

pub found_is : (rs : List Registered) (q : List ℕ) (r : Registered) → find bytes_cmp q (by_id rs) ≡ Some r
    → Contains rs r × (r.standing.id ≡ q)
found_is [] q r h = absurd (none_some h)
found_is (s ∷ rs) q r h =
    elim (same_id q s.standing.id) as (λ b. same_id q s.standing.id ≡ b → cond b (Some s) (find bytes_cmp q (by_id rs))
    ≡ Some r → Contains (s ∷ rs) r × (r.standing.id ≡ q)) [
      | true ↦ λ tied is.
          let same : s ≡ r = same_Some is in
          ((0, omega arith, same), ap (λ (r : Registered). r.standing.id) (sym same) ∙ sym (bytes_same _ _ tied))
      | false ↦ λ _ is.
          let later = found_is rs q r is in
          ((suc later.0.0, omega (arith, later.0.1), later.0.2), later.1)
    ] refl h

pub is_found : (rs : List Registered) (r : Registered) → IsDistinct same_id (ids rs) → Contains rs r
    → find bytes_cmp r.standing.id (by_id rs) ≡ Some r
is_found rs r distinct among =
    find_lookup bytes_cmp r.standing.id (by_id rs)
    ∙ lookup-from_Contains (eq_by_cmp_equiv nat_list_cmp_total) r.standing.id r (by_id rs) distinct (
      among.0,
      omega (arith, among.1, length-map rs with_id),
      get_or-map with_id rs among.0 r (with_id r) among.1
          ∙ ap with_id among.2,
    )
