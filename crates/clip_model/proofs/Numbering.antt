-- Numbered registries, after each change.
use Rattle.std.proofs.Common.{◌≡◌, ℕ, suc, ◌+◌, ◌<◌, ◌≤◌, List, [], ◌∷◌, length, sym, ap, subst, ◌∙◌, arith}
use Rattle.std.specs.FinMap as finite
use Rattle.std.specs.FinMap.{get-empty}
use Rattle.clip_words.specs.Order.{bytes_cmp}
use Rattle.clip_model.specs.Standing.{Standing}
use Rattle.clip_model.specs.History.{History, Command, Register, Delete, Clear, Registered, Registry, register_all}
use Rattle.clip_model.specs.History.{remove_all, after_command, replay, replay_onto, listed, lists}
use Rattle.clip_model.specs.Steps.Numbered.{IsNumbered}
use Rattle.clip_model.proofs.Live.{new, old, after_insert, after_remove}
use Rattle.std.proofs.lemmas.Option.{none-some}

pub numbered_empty : (n : ℕ) → IsNumbered n finite.empty
numbered_empty n = record {
  keyed = λ id r h. absurd (none-some _ (sym (get-empty bytes_cmp id) ∙ h));
  within = λ id r h. absurd (none-some _ (sym (get-empty bytes_cmp id) ∙ h));
  distinct = λ a b r s h k e. absurd (none-some _ (sym (get-empty bytes_cmp a) ∙ h));
}

pub numbered_more : (n k : ℕ) (m : Registry) → n ≤ k → IsNumbered n m → IsNumbered k m
numbered_more n k m le is = record {
  keyed = is.keyed;
  within = λ id r h. let w = is.within id r h in (w.0, let high = w.1 in omega arith);
  distinct = is.distinct;
}

pub numbered_insert : (n : ℕ) (m : Registry) (r : Registered) → r.seq ≡ suc n → IsNumbered n m
    → IsNumbered (suc n) (finite.insert m r.standing.id r)
numbered_insert n m r seq is = record {
  keyed = λ id s h. elim (after_insert m r.standing.id r id s h) as (λ _. s.standing.id ≡ id) [
    | new a e ↦ ap (λ (q : Registered). q.standing.id) e ∙ sym a
    | old a e ↦ is.keyed id s e
  ];
  within = λ id s h. elim (after_insert m r.standing.id r id s h) as (λ _. (0 < s.seq) × (s.seq ≤ suc n)) [
    | new a e ↦ subst (λ (q : Registered). (0 < q.seq) × (q.seq ≤ suc n)) (sym e) (omega arith, omega arith)
    | old a e ↦ let w = is.within id s e in (w.0, let high = w.1 in omega arith)
  ];
  distinct = λ a b s t h k e. elim (after_insert m r.standing.id r a s h) as (λ _. a ≡ b) [
    | new p same ↦ elim (after_insert m r.standing.id r b t k) as (λ _. a ≡ b) [
      | new q other ↦ p ∙ sym q
      | old q other ↦ let high = (is.within b t other).1 in let seqs : s.seq ≡ r.seq =
          ap (λ (q : Registered). q.seq) same in absurd (omega arith)
    ]
    | old p same ↦ elim (after_insert m r.standing.id r b t k) as (λ _. a ≡ b) [
      | new q other ↦ let high = (is.within a s same).1 in let seqs : t.seq ≡ r.seq =
          ap (λ (q : Registered). q.seq) other in absurd (omega arith)
      | old q other ↦ is.distinct a b s t same other e
    ]
  ];
}

pub numbered_remove : (n : ℕ) (m : Registry) (gone : List ℕ) → IsNumbered n m → IsNumbered n (finite.remove m gone)
numbered_remove n m gone is = record {
  keyed = λ id s h. is.keyed id s (after_remove m gone id s h).was;
  within = λ id s h. is.within id s (after_remove m gone id s h).was;
  distinct = λ a b s t h k e. is.distinct a b s t (after_remove m gone a s h).was (after_remove m gone b t k).was e;
}

-- ---- commands and histories

pub numbered_register : (n : ℕ) (ss : List Standing) (m : Registry) → IsNumbered n m
    → IsNumbered (n + length ss) (register_all n ss m)
numbered_register n [] m is = numbered_more n (n + 0) m (omega arith) is
numbered_register n (s ∷ ss) m is =
    numbered_more (suc n + length ss) (n + suc (length ss)) _ (omega arith)
    (numbered_register (suc n) ss _ (numbered_insert n m (record { standing = s; seq = suc n }) (omega arith) is))

pub numbered_removed : (n : ℕ) (ids : List (List ℕ)) (m : Registry) → IsNumbered n m → IsNumbered n (remove_all ids m)
numbered_removed n [] m is = is
numbered_removed n (id ∷ ids) m is = numbered_removed n ids _ (numbered_remove n m id is)

pub numbered_after : (n : ℕ) (m : Registry) (command : Command) → IsNumbered n m
    → IsNumbered (n + lists command) (after_command n command m)
numbered_after n m (Register ss) is = numbered_register n ss m is
numbered_after n m (Delete ids) is = numbered_more n (n + 0) _ (omega arith) (numbered_removed n ids m is)
numbered_after n m Clear is = numbered_empty (n + 0)

numbered_onto : (n : ℕ) (h : History) (m : Registry) → IsNumbered n m → IsNumbered (n + listed h) (replay_onto n h m)
numbered_onto n [] m is = numbered_more n (n + 0) m (omega arith) is
numbered_onto n (e ∷ h) m is =
    numbered_more ((n + lists e.command) + listed h) (n + (lists e.command + listed h)) _ (omega arith)
    (numbered_onto (n + lists e.command) h _ (numbered_after n m e.command is))

-- what a history replays to is numbered
pub replay_numbered : (h : History) → IsNumbered (listed h) (replay h)
replay_numbered h = numbered_more (0 + listed h) (listed h) (replay h) (omega arith)
    (numbered_onto 0 h finite.empty (numbered_empty 0))
