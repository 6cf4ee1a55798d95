-- Numbered registries, after each change.
use Rattle.std.proofs.Common.{◌≡◌, ℕ, suc, Bool, true, false, cond, List, refl, sym, ap, ◌∙◌, Option}
use Rattle.std.proofs.Common.{Some, None, ◌==◌}
use Rattle.std.proofs.lemmas.Bool.{false≢true}
use Rattle.std.proofs.lemmas.Option.{none-some}
use Rattle.std.specs.Ordering.{eq_by_cmp}
use Rattle.std.specs.FinMap as finite
use Rattle.std.specs.FinMap.{get-empty}
use Rattle.clip_words.specs.Order.{bytes_cmp}
use Rattle.clip_grammar.proofs.Booleans.{same_answer}
use Rattle.clip_model.specs.History.{Registered, Registry, is_live_in}
use Rattle.clip_model.specs.Steps.Numbered.{IsNumbered}
use Rattle.clip_model.proofs.ById.{bytes_itself, bytes_same}
use Rattle.clip_model.proofs.Live.{new, old, after_insert, after_remove, inserted_at, inserted_else, removed_else}
use Rattle.clip_model.proofs.Live.{given_live, HasSeq, live_given}
use Rattle.clip_model.proofs.Numbers.{same_numbers, numbers_same}

-- ---- live seqs

-- the query has the seq
abbrev pub has_seq : Option Registered → ℕ → Bool
has_seq None seq = false
has_seq (Some r) seq = r.seq == seq

-- the query under an id has the seq of that found elsewhere only where the ids are one
not_here : (n : ℕ) (m : Registry) (id q : List ℕ) (s : Registered) (found : Option Registered) → IsNumbered n m
    → finite.get m id ≡ found → finite.get m q ≡ Some s → eq_by_cmp bytes_cmp q id ≡ false → has_seq found s.seq ≡ false
not_here n m id q s None is at given other = refl
not_here n m id q s (Some r) is at given other =
    elim (r.seq == s.seq) as (λ b. (r.seq == s.seq) ≡ b → b ≡ false) [
      | false ↦ λ _. refl
      | true ↦ λ e. let same : q ≡ id = is.distinct q id s r given at (sym (same_numbers _ _ e)) in
          absurd (false≢true (sym other ∙ ap (λ (x : List ℕ). eq_by_cmp bytes_cmp x id) same ∙ bytes_itself id))
    ] refl

-- a query that has the seq of the one under an id stands there
elsewhere : (m : Registry) (id q : List ℕ) (s : Registered) → finite.get m q ≡ Some s → has_seq (finite.get m id) s.seq
    ≡ false → eq_by_cmp bytes_cmp q id ≡ false
elsewhere m id q s given none =
    elim (eq_by_cmp bytes_cmp q id) as (λ b. eq_by_cmp bytes_cmp q id ≡ b → b ≡ false) [
      | false ↦ λ _. refl
      | true ↦ λ e. let at : finite.get m id ≡ Some s = ap (finite.get m) (sym (bytes_same q id e)) ∙ given in
          absurd (false≢true (sym none ∙ ap (λ o. has_seq o s.seq) at ∙ numbers_same s.seq s.seq refl))
    ] refl

picked : (b c l : Bool) → c ≡ false → l ≡ true → cond b true (cond c false l) ≡ true
picked true c l none live = refl
picked false c l none live = ap (λ d. cond d false l) none ∙ live

kept_live : (c l : Bool) → c ≡ false → l ≡ true → cond c false l ≡ true
kept_live c l none live = ap (λ d. cond d false l) none ∙ live

insert_forth : (n : ℕ) (m : Registry) (r : Registered) (seq : ℕ) → r.seq ≡ suc n → IsNumbered n m
    → HasSeq (finite.insert m r.standing.id r) seq
    → cond (suc n == seq) true (cond (has_seq (finite.get m r.standing.id) seq) false (is_live_in m seq)) ≡ true
insert_forth n m r seq e is at =
    elim (after_insert m r.standing.id r at.id at.entry at.given)
    as (λ _. cond (suc n == seq) true (cond (has_seq (finite.get m r.standing.id) seq) false (is_live_in m seq))
    ≡ true) [
      | new p same ↦
          let seqs : suc n ≡ seq = sym e ∙ ap (λ (q : Registered). q.seq) (sym same) ∙ at.is in
          ap (λ b. cond b true (cond (has_seq (finite.get m r.standing.id) seq) false (is_live_in m seq)))
          (numbers_same (suc n) seq seqs)
      | old other was ↦
          let there : has_seq (finite.get m r.standing.id) at.entry.seq ≡ false =
          not_here n m r.standing.id at.id at.entry (finite.get m r.standing.id) is refl was other in
          picked (suc n == seq) _ _ (ap (has_seq (finite.get m r.standing.id)) (sym at.is)
          ∙ there) (ap (is_live_in m) (sym at.is) ∙ given_live m at.id at.entry was)
    ]

insert_old : (m : Registry) (r : Registered) (seq : ℕ) → has_seq (finite.get m r.standing.id) seq ≡ false
    → HasSeq m seq → is_live_in (finite.insert m r.standing.id r) seq ≡ true
insert_old m r seq none at =
    let other = elsewhere m r.standing.id at.id at.entry at.given (ap (has_seq (finite.get m r.standing.id)) at.is
    ∙ none) in
    ap (is_live_in (finite.insert m r.standing.id r)) (sym at.is)
    ∙ given_live _ at.id at.entry (inserted_else m r.standing.id r at.id other ∙ at.given)

insert_back : (n : ℕ) (m : Registry) (r : Registered) (seq : ℕ) → r.seq ≡ suc n
    → cond (suc n == seq) true (cond (has_seq (finite.get m r.standing.id) seq) false (is_live_in m seq)) ≡ true
    → is_live_in (finite.insert m r.standing.id r) seq ≡ true
insert_back n m r seq e h =
    elim (suc n == seq) as (λ b. (suc n == seq) ≡ b
    → cond b true (cond (has_seq (finite.get m r.standing.id) seq) false (is_live_in m seq)) ≡ true
    → is_live_in (finite.insert m r.standing.id r) seq ≡ true) [
      | true ↦ λ b _.
          let seqs : r.seq ≡ seq = e ∙ same_numbers (suc n) seq b in
          ap (is_live_in (finite.insert m r.standing.id r)) (sym seqs)
          ∙ given_live _ r.standing.id r (inserted_at m r.standing.id r)
      | false ↦ λ b k. elim (has_seq (finite.get m r.standing.id) seq)
          as (λ c. has_seq (finite.get m r.standing.id) seq ≡ c → cond c false (is_live_in m seq) ≡ true
          → is_live_in (finite.insert m r.standing.id r) seq ≡ true) [
            | true ↦ λ c l. absurd (false≢true l)
            | false ↦ λ c l. insert_old m r seq c (live_given m seq l)
          ] refl k
    ] refl h

-- a seq is live after an insert where it is the new one, or was live and isn't that of the query that was there
pub live_insert : (n : ℕ) (m : Registry) (r : Registered) (seq : ℕ) → r.seq ≡ suc n → IsNumbered n m
    → is_live_in (finite.insert m r.standing.id r) seq
    ≡ cond (suc n == seq) true (cond (has_seq (finite.get m r.standing.id) seq) false (is_live_in m seq))
live_insert n m r seq e is =
    same_answer _ _ (λ h. insert_forth n m r seq e is (live_given _ seq h)) (insert_back n m r seq e)

remove_forth : (n : ℕ) (m : Registry) (gone : List ℕ) (seq : ℕ) → IsNumbered n m → HasSeq (finite.remove m gone) seq
    → cond (has_seq (finite.get m gone) seq) false (is_live_in m seq) ≡ true
remove_forth n m gone seq is at =
    let was = after_remove m gone at.id at.entry at.given in
    let there : has_seq (finite.get m gone) at.entry.seq ≡ false =
    not_here n m gone at.id at.entry (finite.get m gone) is refl was.was was.other in
    kept_live _ _ (ap (has_seq (finite.get m gone)) (sym at.is) ∙ there) (ap (is_live_in m) (sym at.is)
    ∙ given_live m at.id at.entry was.was)

remove_old : (m : Registry) (gone : List ℕ) (seq : ℕ) → has_seq (finite.get m gone) seq ≡ false → HasSeq m seq
    → is_live_in (finite.remove m gone) seq ≡ true
remove_old m gone seq none at =
    let other = elsewhere m gone at.id at.entry at.given (ap (has_seq (finite.get m gone)) at.is ∙ none) in
    ap (is_live_in (finite.remove m gone)) (sym at.is)
    ∙ given_live _ at.id at.entry (removed_else m gone at.id other ∙ at.given)

remove_back : (m : Registry) (gone : List ℕ) (seq : ℕ)
    → cond (has_seq (finite.get m gone) seq) false (is_live_in m seq) ≡ true → is_live_in (finite.remove m gone) seq
    ≡ true
remove_back m gone seq h =
    elim (has_seq (finite.get m gone) seq) as (λ c. has_seq (finite.get m gone) seq ≡ c
    → cond c false (is_live_in m seq) ≡ true → is_live_in (finite.remove m gone) seq ≡ true) [
      | true ↦ λ c l. absurd (false≢true l)
      | false ↦ λ c l. remove_old m gone seq c (live_given m seq l)
    ] refl h

-- a seq is live after a removal where it was live and isn't that of the query that went
pub live_remove : (n : ℕ) (m : Registry) (gone : List ℕ) (seq : ℕ) → IsNumbered n m
    → is_live_in (finite.remove m gone) seq ≡ cond (has_seq (finite.get m gone) seq) false (is_live_in m seq)
live_remove n m gone seq is =
    same_answer _ _ (λ h. remove_forth n m gone seq is (live_given _ seq h)) (remove_back m gone seq)

-- nothing is live in an empty registry
pub none_live : (seq : ℕ) → is_live_in finite.empty seq ≡ false
none_live seq = same_answer _ _ (λ h. let at = live_given finite.empty seq h in
    absurd (none-some _ (sym (get-empty bytes_cmp at.id) ∙ at.given))) (λ h. absurd (false≢true h))
