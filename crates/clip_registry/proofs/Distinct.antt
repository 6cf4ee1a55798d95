-- How many distinct ids a register lists: as many as its queries that stand after it.
use Rattle.std.proofs.Common.{◌≡◌, ℕ, suc, ◌+◌, ◌-◌, ◌<◌, ◌≤◌, Bool, true, false, cond, List, [], ◌∷◌, length, refl}
use Rattle.std.proofs.Common.{sym, ap, subst, ◌∙◌, inl, inr, arith, Some, None}
use Rattle.std.proofs.lemmas.Bool.{false≢true}
use Rattle.std.proofs.lemmas.Cmp.{nat_list_cmp_total}
use Rattle.std.proofs.lemmas.Option.{none-some}
use Rattle.std.proofs.lemmas.List.Elements.{All-head, All-tail}
use Rattle.std.specs.List.{All, Contains, filter}
use Rattle.std.specs.Ordering.{eq_by_cmp}
use Rattle.std.specs.FinMap as finite
use Rattle.std.specs.FinMap.{get-empty, len-empty, len-remove}
use Rattle.clip_grammar.proofs.Booleans.{same_answer}
use Rattle.clip_words.specs.Order.{bytes_cmp}
use Rattle.clip_model.specs.Standing.{Standing}
use Rattle.clip_model.specs.History.{Registered, Registry, register_all, is_live_in}
use Rattle.clip_model.specs.Steps.Numbered.{IsNumbered}
use Rattle.clip_model.proofs.ById.{bytes_itself, same}
use Rattle.clip_model.proofs.Counting.{len_register}
use Rattle.clip_model.proofs.Live.{new, old, after_insert, after_remove, inserted_at, inserted_else, live_given}
use Rattle.clip_model.proofs.Live.{given_live}
use Rattle.clip_registry.specs.Steps.Roster.{insert_one, insert_all}
use Rattle.clip_registry.specs.RegistryState.{numbered, standing_after}
use Rattle.clip_registry.proofs.Counted.{few_given}
use Rattle.clip_registry.proofs.Kept.{contains_of_filter}
use Rattle.clip_registry.proofs.Registering.{insert_all-numbered}
use Rattle.clip_registry.proofs.Rising.{numbered_high, contains_cases}
use Rattle.clip_registry.proofs.Whole.{IsShelved, live_entries, shelved_nothing, shelved_register}

-- ---- what stands is what stands of the list alone

-- two registries give the same queries above n
record Agree (n : ℕ) (m k : Registry) : Type 0 where
  forth : (id : List ℕ) (r : Registered) → n < r.seq → finite.get m id ≡ Some r → finite.get k id ≡ Some r
  back : (id : List ℕ) (r : Registered) → n < r.seq → finite.get k id ≡ Some r → finite.get m id ≡ Some r

agree_one : (m k : Registry) (q : Registered) (id : List ℕ) (r : Registered)
    → (finite.get m id ≡ Some r → finite.get k id ≡ Some r) → finite.get (insert_one m q) id ≡ Some r
    → finite.get (insert_one k q) id ≡ Some r
agree_one m k q id r f h =
    elim (after_insert m q.standing.id q id r h) as (λ _. finite.get (insert_one k q) id ≡ Some r) [
      | new at same ↦ ap (finite.get (insert_one k q)) at ∙ inserted_at k q.standing.id q ∙ ap (λ x. Some x) (sym same)
      | old other was ↦ inserted_else k q.standing.id q id other ∙ f was
    ]

agree_all : (n : ℕ) (rs : List Registered) (m k : Registry) → Agree n m k → Agree n (insert_all m rs) (insert_all k rs)
agree_all n [] m k are = are
agree_all n (q ∷ rs) m k are = agree_all n rs _ _ (record {
  forth = λ id r high. agree_one m k q id r (are.forth id r high);
  back = λ id r high. agree_one k m q id r (are.back id r high);
})

live_agree : (n : ℕ) (m k : Registry) (seq : ℕ) → n < seq → Agree n m k → is_live_in m seq ≡ is_live_in k seq
live_agree n m k seq high are = same_answer _ _
    (λ h. let at = live_given m seq h in let above : n < at.entry.seq = let e = at.is in omega arith in
    ap (is_live_in k) (sym at.is) ∙ given_live k at.id at.entry (are.forth at.id at.entry above at.given))
    (λ h. let at = live_given k seq h in let above : n < at.entry.seq = let e = at.is in omega arith in
    ap (is_live_in m) (sym at.is) ∙ given_live m at.id at.entry (are.back at.id at.entry above at.given))

agree_nothing : (n : ℕ) (m : Registry) → IsNumbered n m → Agree n finite.empty m
agree_nothing n m is = record {
  forth = λ id r high h. absurd (none-some _ (sym (get-empty bytes_cmp id) ∙ h));
  back = λ id r high h. let low = (is.within id r h).1 in absurd (omega arith);
}

live_alone : (n : ℕ) (ss : List Standing) (m : Registry) (seq : ℕ) → IsNumbered n m → n < seq
    → is_live_in (register_all n ss finite.empty) seq ≡ is_live_in (register_all n ss m) seq
live_alone n ss m seq is high =
    ap (λ k. is_live_in k seq) (sym (insert_all-numbered n ss finite.empty))
    ∙ live_agree n _ _ seq high (agree_all n (numbered n ss) finite.empty m (agree_nothing n m is))
    ∙ ap (λ k. is_live_in k seq) (insert_all-numbered n ss m)

filter_high : (n : ℕ) (p q : Registered → Bool) (rs : List Registered) → All (λ r. n < r.seq) rs
    → ((r : Registered) → n < r.seq → p r ≡ q r) → filter p rs ≡ filter q rs
filter_high n p q [] high same = refl
filter_high n p q (r ∷ rs) high same =
    let rest = filter_high n p q rs (All-tail (λ r. n < r.seq) r rs high) same in
    ap (λ b. cond b (r ∷ filter p rs) (filter p rs)) (same r (All-head (λ r. n < r.seq) r rs high))
    ∙ ap (λ x. cond (q r) (r ∷ x) x) rest

stand_alone : (n : ℕ) (ss : List Standing) (m : Registry) → IsNumbered n m → standing_after n ss finite.empty
    ≡ standing_after n ss m
stand_alone n ss m is = filter_high n _ _ (numbered n ss) (numbered_high n ss)
    (λ r high. live_alone n ss m r.seq is high)

-- ---- counting

left : (b : Bool) (n : ℕ) → n ≤ suc (cond b (n - 1) n)
left true n = omega arith
left false n = omega arith

none_there : (m : Registry) → ((id : List ℕ) (r : Registered) → finite.get m id ≡ Some r → ⊥) → finite.len m ≡ 0
none_there m nothing =
    let none : Registry = finite.empty in
    let given : (q : List ℕ) → finite.get m q ≡ finite.get none q = λ q.
    elim (finite.get m q) as (λ o. finite.get m q ≡ o → finite.get m q ≡ finite.get none q) [
      | None ↦ λ e. e ∙ sym (get-empty bytes_cmp q)
      | Some r ↦ λ e. elim (nothing q r e) [ ]
    ] refl in
    ap finite.len (same m none given) ∙ len-empty bytes_cmp Registered

-- a registry whose queries are all of a list has no more than the list
few_ids : (rs : List Registered) (m : Registry)
    → ((id : List ℕ) (r : Registered) → finite.get m id ≡ Some r → Contains rs r × (r.standing.id ≡ id))
    → finite.len m ≤ length rs
few_ids [] m all = let none = none_there m (λ id r h. let at = (all id r h).0 in let low = at.1 in omega arith) in
    omega arith
few_ids (r ∷ rs) m all =
    let rest = few_ids rs (finite.remove m r.standing.id) (λ id t h.
    let was = after_remove m r.standing.id id t h in
    let is = all id t was.was in (
      elim (contains_cases r t rs is.0) [
        | inl one ↦ absurd (false≢true (sym was.other
            ∙ ap (λ x. eq_by_cmp bytes_cmp x r.standing.id) (sym is.1
            ∙ ap (λ (q : Registered). q.standing.id) (sym one)) ∙ bytes_itself r.standing.id))
        | inr later ↦ later
      ],
      is.1,
    )) in
    let less : finite.len m ≤ suc (finite.len (finite.remove m r.standing.id)) =
    subst (λ k. finite.len m ≤ suc k) (sym (len-remove nat_list_cmp_total m r.standing.id))
    (left (finite.contains_key m r.standing.id) (finite.len m)) in
    omega arith

pub count_distinct : (n : ℕ) (ss : List Standing) (m : Registry) → IsNumbered n m → length (standing_after n ss m)
    ≡ finite.len (register_all 0 ss finite.empty)
count_distinct n ss m numbered_before =
    let alone = register_all n ss finite.empty in
    let stand = standing_after n ss finite.empty in
    let is : IsShelved (n + length ss) stand alone = shelved_register n ss [] finite.empty (shelved_nothing n) in
    let low : length stand ≤ finite.len alone = few_given stand alone is.rising (λ r h.
    (live_entries (n + length ss) stand alone is r).1 (
      h,
      (contains_of_filter (λ r. is_live_in alone r.seq) r (numbered n ss) h).1,
    )) in
    let high : finite.len alone ≤ length stand =
    few_ids stand alone (λ id r h. (is.among id r h, is.numbered.keyed id r h)) in
    let same_count : length stand ≡ finite.len alone = omega arith in
    ap length (sym (stand_alone n ss m numbered_before)) ∙ same_count ∙ len_register n ss
