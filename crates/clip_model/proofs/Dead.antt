-- A seq once dead stays dead.
use Rattle.std.proofs.Common.{◌≡◌, ℕ, suc, ◌+◌, ◌≤◌, Bool, true, false, List, [], ◌∷◌, ◌++◌, refl, sym, ap, subst, ◌∙◌}
use Rattle.std.proofs.Common.{arith, Some, add_assoc, zero-add, true≢false}
use Rattle.std.proofs.lemmas.Option.{none-some}
use Rattle.std.specs.FinMap as finite
use Rattle.std.specs.FinMap.{get-empty}
use Rattle.clip_words.specs.Order.{bytes_cmp}
use Rattle.clip_model.specs.Standing.{Standing}
use Rattle.clip_model.specs.History.{History, Command, Register, Delete, Clear, Registered, Registry, lists}
use Rattle.clip_model.specs.History.{register_all, remove_all, after_command, replay_onto, replay, listed, is_live_in}
use Rattle.clip_model.specs.Laws.{DeadStaysDead}
use Rattle.clip_model.proofs.Live.{new, old, after_insert, after_remove, live_given, given_live}

-- Among seqs up to n, what is live in one registry is live in the other.
abbrev pub LiveBefore : ℕ → Registry → Registry → Type 0
LiveBefore n before after = (seq : ℕ) → seq ≤ n → is_live_in after seq ≡ true → is_live_in before seq ≡ true

live_at : (m : Registry) (id : List ℕ) (r : Registered) (seq : ℕ) → finite.get m id ≡ Some r → r.seq ≡ seq
    → is_live_in m seq ≡ true
live_at m id r seq h is = subst (λ k. is_live_in m k ≡ true) is (given_live m id r h)

insert_before : (n : ℕ) (m : Registry) (s : Standing)
    → LiveBefore n m (finite.insert m s.id (record { standing = s; seq = suc n }))
insert_before n m s seq low live =
    let at = live_given _ seq live in
    elim (after_insert m s.id (record { standing = s; seq = suc n }) at.id at.entry at.given)
    as (λ _. is_live_in m seq ≡ true) [
      | new _ same ↦ let is = ap (λ (r : Registered). r.seq) same in let has = at.is in absurd (omega arith)
      | old _ was ↦ live_at m at.id at.entry seq was at.is
    ]

register_before : (n : ℕ) (ss : List Standing) (m : Registry) → LiveBefore n m (register_all n ss m)
register_before n [] m seq low live = live
register_before n (s ∷ ss) m seq low live =
    insert_before n m s seq low (register_before (suc n) ss _ seq (omega arith) live)

remove_before : (n : ℕ) (ids : List (List ℕ)) (m : Registry) → LiveBefore n m (remove_all ids m)
remove_before n [] m seq low live = live
remove_before n (id ∷ ids) m seq low live =
    let at = live_given _ seq (remove_before n ids _ seq low live) in
    live_at m at.id at.entry seq (after_remove m id at.id at.entry at.given).was at.is

nothing_live : (seq : ℕ) → is_live_in finite.empty seq ≡ true → ⊥
nothing_live seq live = let at = live_given finite.empty seq live in
    none-some _ (sym (get-empty bytes_cmp at.id) ∙ at.given)

command_before : (n : ℕ) (c : Command) (m : Registry) → LiveBefore n m (after_command n c m)
command_before n (Register standings) m seq low live = register_before n standings m seq low live
command_before n (Delete ids) m seq low live = remove_before n ids m seq low live
command_before n Clear m seq low live = absurd (nothing_live seq live)

onto_before : (n : ℕ) (h : History) (m : Registry) → LiveBefore n m (replay_onto n h m)
onto_before n [] m seq low live = live
onto_before n (e ∷ h) m seq low live =
    command_before n e.command m seq low (onto_before (n + lists e.command) h _ seq (omega arith) live)

onto_append : (n : ℕ) (h more : History) (m : Registry)
    → replay_onto n (h ++ more) m ≡ replay_onto (n + listed h) more (replay_onto n h m)
onto_append n [] more m = ap (λ k. replay_onto k more m) (omega arith)
onto_append n (e ∷ h) more m =
    onto_append (n + lists e.command) h more (after_command n e.command m)
    ∙ ap (λ k. replay_onto k more (replay_onto (n + lists e.command) h (after_command n e.command m)))
    (add_assoc n (lists e.command) (listed h))

-- what a longer history has live of the seqs given before, was live then
pub live_before : (h more : History) → LiveBefore (listed h) (replay h) (replay (h ++ more))
live_before h more seq low live =
    onto_before (listed h) more (replay h) seq low
    (subst (λ (m : Registry). is_live_in m seq ≡ true) (onto_append 0 h more finite.empty
    ∙ ap (λ k. replay_onto k more (replay h)) (zero-add (listed h))) live)

not_true : (b : Bool) → (b ≡ true → ⊥) → b ≡ false
not_true true h = absurd (h refl)
not_true false h = refl

pub dead_stays_dead : DeadStaysDead
dead_stays_dead h more seq given dead = not_true _ (λ live. true≢false (sym (live_before h more seq given live) ∙ dead))
