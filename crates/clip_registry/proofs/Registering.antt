-- What a register leaves.
use Rattle.std.proofs.Common.{◌≡◌, ℕ, suc, ◌⊎◌, List, [], ◌∷◌, refl, subst, inl, inr, Some}
use Rattle.std.specs.List.{Contains}
use Rattle.std.specs.FinMap as finite
use Rattle.clip_model.specs.Standing.{Standing}
use Rattle.clip_model.specs.History.{Registered, Registry, register_all, remove_all}
use Rattle.clip_registry.specs.Steps.Roster.{insert_one, insert_all, SeqsFollow}
use Rattle.clip_registry.specs.RegistryState.{numbered}
use Rattle.clip_model.proofs.Live.{new, old, after_insert, after_remove}
use Rattle.clip_registry.proofs.Rising.{contains_head, contains_later}

-- to register is to insert the numbered queries
pub insert_all-numbered : (n : ℕ) (ss : List Standing) (m : Registry) → insert_all m (numbered n ss)
    ≡ register_all n ss m
insert_all-numbered n [] m = refl
insert_all-numbered n (s ∷ ss) m = insert_all-numbered (suc n) ss _

pub numbered_follow : (n : ℕ) (ss : List Standing) → SeqsFollow n (numbered n ss)
numbered_follow n [] = tt
numbered_follow n (s ∷ ss) = (refl, numbered_follow (suc n) ss)

-- what is there after inserts was inserted or was there
pub inserted_or_old : (rs : List Registered) (m : Registry) (id : List ℕ) (r : Registered)
    → finite.get (insert_all m rs) id ≡ Some r → Contains rs r ⊎ (finite.get m id ≡ Some r)
inserted_or_old [] m id r h = inr h
inserted_or_old (q ∷ rs) m id r h =
    elim (inserted_or_old rs (insert_one m q) id r h) as (λ _. Contains (q ∷ rs) r ⊎ (finite.get m id ≡ Some r)) [
      | inl later ↦ inl (contains_later q r rs later)
      | inr here ↦ elim (after_insert m q.standing.id q id r here)
          as (λ _. Contains (q ∷ rs) r ⊎ (finite.get m id ≡ Some r)) [
            | new _ same ↦ inl (subst (λ x. Contains (x ∷ rs) r) same (contains_head r rs))
            | old _ was ↦ inr was
          ]
    ]

pub removed_was : (ids : List (List ℕ)) (m : Registry) (id : List ℕ) (r : Registered)
    → finite.get (remove_all ids m) id ≡ Some r → finite.get m id ≡ Some r
removed_was [] m id r h = h
removed_was (gone ∷ ids) m id r h = (after_remove m gone id r (removed_was ids _ id r h)).was
