-- Walks over listeners that tell each an event.
use Rattle.std.proofs.Common.{◌≡◌, ◌≢◌, ℕ, zero, suc, ◌+◌, ◌<◌, ◌≤◌, List, [], ◌∷◌, length, map, slice_get, get_or}
use Rattle.std.proofs.Common.{Some, Bool, refl, sym, ap, subst, ◌∙◌, arith, inl, inr}
use Rattle.std.proofs.Math.ListN.{set, length-set}
use Rattle.std.proofs.lemmas.Bool.{cases_lt}
use Rattle.std.proofs.lemmas.Option.{slice_get-get_or, slice_get_within}
use Rattle.clip_desk.specs.Updates.{Event, Heard, IsTold, AreTold, heard_by}
use Rattle.clip_desk.specs.Steps.Telling.{IsToldTo}

get_same : {A : Type 0} (xs : List A) (i : ℕ) (v : A) → i < length xs → slice_get (set xs i v) i ≡ Some v
get_same [] i v lt = absurd (omega arith)
get_same (x ∷ xs) zero v lt = refl
get_same (x ∷ xs) (suc i) v lt = get_same xs i v (omega arith)

get_other : {A : Type 0} (xs : List A) (i k : ℕ) (v : A) → k ≢ i → slice_get (set xs i v) k ≡ slice_get xs k
get_other [] i k v ne = refl
get_other (x ∷ xs) zero zero v ne = absurd (ne refl)
get_other (x ∷ xs) zero (suc k) v ne = refl
get_other (x ∷ xs) (suc i) zero v ne = refl
get_other (x ∷ xs) (suc i) (suc k) v ne = get_other xs i k v (λ e. ne (ap suc e))

get_mapped : {A B : Type 0} (f : A → B) (xs : List A) (k : ℕ) (y : B) → slice_get (map f xs) k ≡ Some y
    → (x : A) × (slice_get xs k ≡ Some x) × (y ≡ f x)
get_mapped f [] k y h = absurd cc
get_mapped f (x ∷ xs) zero y h = (x, refl, cc)
get_mapped f (x ∷ xs) (suc k) y h = get_mapped f xs k y h

length_mapped : {A B : Type 0} (f : A → B) (xs ys : List A) → length ys ≡ length xs
    → length (map f ys) ≡ length (map f xs)
length_mapped f [] [] e = refl
length_mapped f [] (y ∷ ys) e = absurd (omega arith)
length_mapped f (x ∷ xs) [] e = absurd (omega arith)
length_mapped f (x ∷ xs) (y ∷ ys) e = ap suc (length_mapped f xs ys (omega arith))

module _ {L : Type 0} (heard : L → List Event) (event : Event) where
  pub told_none : (parts : List (L × Bool)) → IsToldTo heard event 0 parts parts
  told_none parts = record { same = refl; told = λ k p q lt at now. absurd (omega arith); left = λ k le. refl }

  module _ (n : ℕ) (before after : List (L × Bool)) (all : IsToldTo heard event n before after) where
    -- one more listener is told
    module _ (d q : L × Bool) (within : n
        < length before) (one : IsTold event (heard_by heard (get_or after n d)) (heard_by heard q)) where
      told_here : (k : ℕ) (a b : L × Bool) → k ≡ n → slice_get before k ≡ Some a → slice_get (set after n q) k ≡ Some b
          → IsTold event (heard_by heard a) (heard_by heard b)
      told_here k a b e at now =
          let in_after : n < length after = let s = all.same in omega arith in
          let stood : slice_get after n ≡ Some (get_or after n d) = slice_get-get_or after n d in_after in
          let left : slice_get after n ≡ slice_get before n = all.left n (omega arith) in
          let put : slice_get (set after n q) n ≡ Some q = get_same after n q in_after in
          let old : get_or after n d ≡ a = cc (ap (slice_get before) e) in
          let new : q ≡ b = cc (ap (slice_get (set after n q)) e) in
          subst (λ (x : L × Bool). IsTold event (heard_by heard x) (heard_by heard b)) old
          (subst (λ (x : L × Bool). IsTold event (heard_by heard (get_or after n d)) (heard_by heard x)) new one)

      pub told_next : IsToldTo heard event (n + 1) before (set after n q)
      told_next = record {
        same = length-set after n q ∙ all.same;
        told = λ k a b under at now. elim (cases_lt k n) [
          | inl below ↦ all.told k a b below at (sym (get_other after n k q (λ e. absurd (omega arith))) ∙ now)
          | inr above ↦ told_here k a b (omega arith) at now
        ];
        left = λ k le. get_other after n k q (λ e. absurd (omega arith)) ∙ all.left k (omega arith);
      }

    told_each : length before ≤ n → (k : ℕ) (h w : Heard) → slice_get (map (heard_by heard) before) k ≡ Some h
        → slice_get (map (heard_by heard) after) k ≡ Some w → IsTold event h w
    told_each past k h w at now =
        let old = get_mapped (heard_by heard) before k h at in
        let new = get_mapped (heard_by heard) after k w now in
        let within = slice_get_within before k old.0 old.1 in
        let told : IsTold event (heard_by heard old.0) (heard_by heard new.0) =
        all.told k old.0 new.0 (omega arith) old.1 new.1 in
        subst (λ (x : Heard). IsTold event x w) (sym old.2)
        (subst (λ (x : Heard). IsTold event (heard_by heard old.0) x) (sym new.2) told)

    -- all listeners are told
    pub told_whole : length before ≤ n → AreTold event (map (heard_by heard) before) (map (heard_by heard) after)
    told_whole past = record { same = length_mapped (heard_by heard) before after all.same; each = told_each past }
