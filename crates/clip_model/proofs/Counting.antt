-- How many queries there are, and how many were listed.
use Rattle.std.proofs.Common.{◌≡◌, ℕ, suc, ◌+◌, ◌*◌, ◌-◌, ◌≤◌, Bool, true, false, cond, List, [], ◌∷◌, ◌++◌, length}
use Rattle.std.proofs.Common.{map, refl, sym, ap, subst, ◌∙◌, arith, Some, is_some, IsTrue, ◌==◌}
use Rattle.std.proofs.lemmas.Bool.Decides.{nat_tests}
use Rattle.std.proofs.lemmas.Cmp.{nat_list_cmp_total}
use Rattle.std.proofs.lemmas.List.{length-map}
use Rattle.std.specs.List.{filter}
use Rattle.std.specs.Ordering.{eq_by_cmp}
use Rattle.std.specs.FinMap as finite
use Rattle.std.specs.FinMap.{get-insert, len-insert, len-remove}
use Rattle.clip_words.specs.Order.{bytes_cmp}
use Rattle.clip_model.specs.Standing.{Standing}
use Rattle.clip_model.specs.History.{History, HistoryEntry, Command, Register, Delete, Clear, Registered, Registry}
use Rattle.clip_model.specs.History.{IsLegal, register_all, remove_all, listed, lists, own, fits}
use Rattle.clip_model.specs.declared.limits.TheConstants.{MOST_LISTED, MOST_ENTRIES}

-- fewer by one, or as many
not_more : (b : Bool) (n : ℕ) → cond b (n - 1) n ≤ n
not_more true n = omega arith
not_more false n = omega arith

pub len_removed : (ids : List (List ℕ)) (m : Registry) → finite.len (remove_all ids m) ≤ finite.len m
len_removed [] m = omega arith
len_removed (id ∷ ids) m =
    let rest = len_removed ids (finite.remove m id) in
    let one : finite.len (finite.remove m id) ≤ finite.len m =
    subst (λ k. k ≤ finite.len m) (sym (len-remove nat_list_cmp_total m id))
    (not_more (finite.contains_key m id) (finite.len m)) in
    omega arith

-- two registries of the same ids
pub record SameIds (m k : Registry) : Type 0 where
  pub ids : (id : List ℕ) → is_some (finite.get m id) ≡ is_some (finite.get k id)
  pub len : finite.len m ≡ finite.len k

same_insert : (m k : Registry) (id : List ℕ) (r t : Registered) → SameIds m k
    → SameIds (finite.insert m id r) (finite.insert k id t)
same_insert m k id r t are = record {
  ids = λ q. ap is_some (get-insert nat_list_cmp_total m id r q)
      ∙ elim (eq_by_cmp bytes_cmp q id)
      as (λ b. is_some (cond b (Some r) (finite.get m q)) ≡ is_some (cond b (Some t) (finite.get k q))) [
        | true ↦
            refl
        | false ↦ are.ids q
      ]
      ∙ sym (ap is_some (get-insert nat_list_cmp_total k id t q));
  len = len-insert nat_list_cmp_total m id r
      ∙ ap (λ b. cond b (finite.len m) (finite.len m + 1)) (are.ids id)
      ∙ ap (λ n. cond (is_some (finite.get k id)) n (n + 1)) are.len
      ∙ sym (len-insert nat_list_cmp_total k id t);
}

pub same_register : (n p : ℕ) (ss : List Standing) (m k : Registry) → SameIds m k
    → SameIds (register_all n ss m) (register_all p ss k)
same_register n p [] m k are = are
same_register n p (s ∷ ss) m k are = same_register (suc n) (suc p) ss _ _ (same_insert m k s.id _ _ are)

pub len_register : (n : ℕ) (ss : List Standing) → finite.len (register_all n ss finite.empty)
    ≡ finite.len (register_all 0 ss finite.empty)
len_register n ss = (same_register n 0 ss finite.empty finite.empty (record { ids = λ id. refl; len = refl })).len

-- ---- histories

lists_few : (c : Command) → IsTrue (fits c) → lists c ≤ MOST_LISTED
lists_few (Register standings) h = grind (arith, nat_tests)
lists_few (Delete ids) h = omega arith
lists_few Clear h = omega arith

listed_few : (h : History)
    → ((before after : History) (e : HistoryEntry) → h ≡ before ++ e ∷ after → IsTrue (fits e.command))
    → listed h ≤ MOST_LISTED * length h
listed_few [] fit = omega arith
listed_few (e ∷ h) fit =
    let first = lists_few e.command (fit [] h e refl) in
    let rest = listed_few h (λ before after f parts. fit (e ∷ before) after f (ap (λ x. e ∷ x) parts)) in
    omega arith

-- a legal history listed no more queries with each entry than a command may list
pub listed_bound : (h : History) → IsLegal h → listed h ≤ MOST_LISTED * MOST_ENTRIES
listed_bound h legal = let few = listed_few h legal.commands in let short = legal.short in omega arith

filter_length : (p : HistoryEntry → Bool) (h : History) → length (filter p h) ≤ length h
filter_length p [] = omega arith
filter_length p (e ∷ h) = let rest = filter_length p h in
    elim (p e) as (λ b. length (cond b (e ∷ filter p h) (filter p h)) ≤ suc (length h)) [
      | true ↦ omega arith
      | false ↦
          omega arith
    ]

pub own_length : (h : History) (caller : ℕ) → length (own h caller) ≤ length h
own_length h caller = let few = filter_length (λ e. e.caller == caller) h in let same =
    length-map (filter (λ e. e.caller == caller) h) (λ (e : HistoryEntry). e.command) in omega arith

-- one entry more is one command more of its caller, and none of another
pub own_more : (h : History) (e : HistoryEntry) (caller : ℕ) → length (own (h ++ e ∷ []) caller)
    ≡ cond (e.caller == caller) (suc (length (own h caller))) (length (own h caller))
own_more [] e caller = elim (e.caller == caller)
    as (λ b. length (map (λ (e : HistoryEntry). e.command) (cond b (e ∷ []) [])) ≡ cond b 1 0) [
      | true ↦ refl
      | false ↦
          refl
    ]
own_more (f ∷ h) e caller =
    elim (f.caller == caller)
    as (λ b. length (map (λ (e : HistoryEntry). e.command)
    (cond b (f ∷ filter (λ e. e.caller == caller) (h ++ e ∷ [])) (filter (λ e. e.caller == caller) (h ++ e ∷ []))))
    ≡ cond (e.caller == caller)
    (suc (length (map (λ (e : HistoryEntry). e.command)
    (cond b (f ∷ filter (λ e. e.caller == caller) h) (filter (λ e. e.caller == caller) h)))))
    (length (map (λ (e : HistoryEntry). e.command)
    (cond b (f ∷ filter (λ e. e.caller == caller) h) (filter (λ e. e.caller == caller) h))))) [
      | true ↦ ap suc (own_more h e caller) ∙ pushed (e.caller == caller) (length (own h caller))
      | false ↦ own_more h e caller
    ]
  where
    pushed : (b : Bool) (n : ℕ) → suc (cond b (suc n) n) ≡ cond b (suc (suc n)) (suc n)
    pushed true n = refl
    pushed false n = refl
