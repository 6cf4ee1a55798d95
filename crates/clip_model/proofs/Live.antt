-- Keys of registries, and which seqs are live.
use Rattle.std.proofs.Common.{◌≡◌, ℕ, Bool, true, false, cond, ◌||◌, List, [], ◌∷◌, refl, sym, ap, ◌∙◌, Some, None}
use Rattle.std.proofs.Common.{◌==◌}
use Rattle.std.proofs.lemmas.Cmp.{nat_list_cmp_total}
use Rattle.std.proofs.lemmas.Option.{same_Some, none-some}
use Rattle.std.specs.List.{list_any}
use Rattle.std.specs.Ordering.{eq_by_cmp}
use Rattle.std.specs.FinMap as finite
use Rattle.std.specs.FinMap.{get-entries, get-insert, get-remove}
use Rattle.std.specs.FinMap.Entries.{find}
use Rattle.clip_words.specs.Order.{bytes_cmp}
use Rattle.clip_model.specs.History.{Registered, Registry, is_live_in}
use Rattle.clip_model.proofs.ById.{bytes_same, bytes_itself}
use Rattle.clip_model.proofs.Entries.{entry_given}
use Rattle.clip_model.proofs.Numbers.{same_numbers, numbers_same}

-- what a registry gives after an insert: the new query under its id, and elsewhere what was there
pub inserted_at : (m : Registry) (id : List ℕ) (r : Registered) → finite.get (finite.insert m id r) id ≡ Some r
inserted_at m id r = get-insert nat_list_cmp_total m id r id
    ∙ ap (λ b. cond b (Some r) (finite.get m id)) (bytes_itself id)

pub inserted_else : (m : Registry) (id : List ℕ) (r : Registered) (q : List ℕ) → eq_by_cmp bytes_cmp q id ≡ false
    → finite.get (finite.insert m id r) q ≡ finite.get m q
inserted_else m id r q e = get-insert nat_list_cmp_total m id r q ∙ ap (λ b. cond b (Some r) (finite.get m q)) e

pub removed_else : (m : Registry) (id : List ℕ) (q : List ℕ) → eq_by_cmp bytes_cmp q id ≡ false
    → finite.get (finite.remove m id) q ≡ finite.get m q
removed_else m id q e = get-remove nat_list_cmp_total m id q ∙ ap (λ b. cond b None (finite.get m q)) e

-- what is found after an insert is the new query, or was there under another id
pub data AfterInsert (m : Registry) (id : List ℕ) (r : Registered) (q : List ℕ) (s : Registered) : Type 0 where
  new : q ≡ id → s ≡ r → AfterInsert m id r q s
  old : eq_by_cmp bytes_cmp q id ≡ false → finite.get m q ≡ Some s → AfterInsert m id r q s

pub after_insert : (m : Registry) (id : List ℕ) (r : Registered) (q : List ℕ) (s : Registered)
    → finite.get (finite.insert m id r) q ≡ Some s → AfterInsert m id r q s
after_insert m id r q s h =
    elim (eq_by_cmp bytes_cmp q id) as (λ b. eq_by_cmp bytes_cmp q id ≡ b → cond b (Some r) (finite.get m q) ≡ Some s
    → AfterInsert m id r q s) [
      | true ↦ λ b is. new (bytes_same q id b) (sym (same_Some _ _ is))
      | false ↦ λ b is. old b is
    ] refl (sym (get-insert nat_list_cmp_total m id r q) ∙ h)

pub record AfterRemove (m : Registry) (id q : List ℕ) (s : Registered) : Type 0 where
  pub other : eq_by_cmp bytes_cmp q id ≡ false
  pub was : finite.get m q ≡ Some s

pub after_remove : (m : Registry) (id q : List ℕ) (s : Registered) → finite.get (finite.remove m id) q ≡ Some s
    → AfterRemove m id q s
after_remove m id q s h =
    elim (eq_by_cmp bytes_cmp q id) as (λ b. eq_by_cmp bytes_cmp q id ≡ b → cond b None (finite.get m q) ≡ Some s
    → AfterRemove m id q s) [
      | true ↦ λ b is. absurd (none-some _ is)
      | false ↦ λ b is. record { other = b; was = is }
    ] refl (sym (get-remove nat_list_cmp_total m id q) ∙ h)

-- ---- live seqs

found_any : (id : List ℕ) (r : Registered) (es : List (List ℕ × Registered)) → find bytes_cmp id es ≡ Some r
    → list_any (λ e. e.1.seq == r.seq) es ≡ true
found_any id r [] h = absurd (none-some _ h)
found_any id r (e ∷ es) h =
    elim (eq_by_cmp bytes_cmp id e.0) as (λ b. cond b (Some e.1) (find bytes_cmp id es) ≡ Some r
    → (e.1.seq == r.seq || list_any (λ e. e.1.seq == r.seq) es) ≡ true) [
      | true ↦ λ is. let same : e.1 ≡ r = same_Some _ _ is in let seqs : (e.1.seq == r.seq) ≡ true =
          rw same (numbers_same r.seq r.seq refl) in ap (λ b. b || list_any (λ e. e.1.seq == r.seq) es) seqs
      | false ↦ λ is. or_right (e.1.seq == r.seq) _ (found_any id r es is)
    ] h
  where
    or_right : (a b : Bool) → b ≡ true → (a || b) ≡ true
    or_right true b h = refl
    or_right false b h = h

-- what the registry gives is live
pub given_live : (m : Registry) (id : List ℕ) (r : Registered) → finite.get m id ≡ Some r → is_live_in m r.seq ≡ true
given_live m id r h = found_any id r (finite.entries m) (sym (get-entries m id) ∙ h)

-- the query that has a live seq
pub record HasSeq (m : Registry) (seq : ℕ) : Type 0 where
  pub id : List ℕ
  pub entry : Registered
  pub given : finite.get m id ≡ Some entry
  pub is : entry.seq ≡ seq

pub live_given : (m : Registry) (seq : ℕ) → is_live_in m seq ≡ true → HasSeq m seq
live_given m seq h =
    let given = entry_given nat_list_cmp_total (λ e. e.1.seq == seq) m h in
    record { id = given.0; entry = given.1; given = given.2; is = same_numbers _ _ given.3 }
