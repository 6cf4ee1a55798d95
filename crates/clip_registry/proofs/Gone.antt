-- What has gone of a roster.
use Rattle.std.proofs.Common.{◌≡◌, ℕ, suc, ◌<◌, ◌≤◌, Bool, true, false, cond, ◌||◌, nat_lt, List, ◌∷◌, [], ◌++◌}
use Rattle.std.proofs.Common.{length, ◌+◌, get_or, Option, Some, None, refl, sym, ap, ap₂, ◌∙◌, inl, inr, arith}
use Rattle.std.proofs.lemmas.Bool.Decides.{nat_tests}
use Rattle.std.proofs.lemmas.Bool.{cases_lt, cases_order}
use Rattle.std.proofs.lemmas.List.Elements.{All-contains}
use Rattle.std.specs.List.{All, filter}
use Rattle.std.specs.FinMap as finite
use Rattle.clip_indexed.specs.Segment.{all_entries}
use Rattle.clip_model.specs.Standing.{Standing}
use Rattle.clip_model.specs.History.{Registered, Registry, is_live_in}
use Rattle.clip_model.specs.Steps.Numbered.{IsNumbered}
use Rattle.clip_model.proofs.Numbers.{numbers_same, number_less, number_more}
use Rattle.clip_registry.specs.RegistryState.{numbered}
use Rattle.clip_registry.specs.Steps.LiveFlags.{flags_by, flags_in, without_all}
use Rattle.clip_registry.specs.Steps.Roster.{Roster, HaveGone, has_or_awaits, roster_with, roster_without, seqs_given}
use Rattle.clip_registry.proofs.LiveFlags.{alike_by, without-append, without_alike}
use Rattle.clip_registry.proofs.Naming.{filter_same}
use Rattle.clip_registry.proofs.Numbering.{has_seq, live_insert, live_remove}
use Rattle.clip_registry.proofs.Rising.{numbered_high, numbered_low}

is_lt : (a b : ℕ) → a < b → nat_lt a b ≡ true
is_lt a b h = grind (arith, nat_tests)

not_lt : (a b : ℕ) → b ≤ a → nat_lt a b ≡ false
not_lt a b h = grind (arith, nat_tests)

-- ---- one query more or less

found_without : (found : Option Registered) (is : ℕ → Bool) (seq : ℕ)
    → without_all (seqs_given found) is seq ≡ cond (has_seq found seq) false (is seq)
found_without None is seq = refl
found_without (Some r) is seq = refl

-- no query that is there has a seq above those listed
none_above : (n : ℕ) (m : Registry) (id : List ℕ) (found : Option Registered) (seq : ℕ) → IsNumbered n m
    → finite.get m id ≡ found → n < seq → has_seq found seq ≡ false
none_above n m id None seq is at above = refl
none_above n m id (Some r) seq is at above =
    let low = (is.within id r at).1 in
    number_less r.seq seq (omega arith)

-- what was not listed yet still waits
waits : (n : ℕ) (m : Registry) (id : List ℕ) (seq : ℕ) → IsNumbered n m → n < seq
    → cond (has_seq (finite.get m id) seq) false (nat_lt n seq || is_live_in m seq) ≡ true
waits n m id seq is above =
    ap₂ (λ b c. cond b false (c || is_live_in m seq)) (none_above n m id (finite.get m id) seq is refl above)
    (is_lt n seq above)

listed_one : (n : ℕ) (m : Registry) (id : List ℕ) (seq : ℕ) → seq ≤ n
    → cond (has_seq (finite.get m id) seq) false (nat_lt n seq || is_live_in m seq)
    ≡ cond (has_seq (finite.get m id) seq) false (is_live_in m seq)
listed_one n m id seq low =
    ap (λ b. cond (has_seq (finite.get m id) seq) false (b || is_live_in m seq)) (not_lt n seq low)

pub one_more : (roster : Roster) (r : Registered) (seq : ℕ) → r.seq ≡ suc roster.listed
    → IsNumbered roster.listed roster.registry
    → cond (has_seq (finite.get roster.registry r.standing.id) seq) false (has_or_awaits roster seq)
    ≡ has_or_awaits (roster_with roster r) seq
one_more roster r seq next is =
    let n = roster.listed in
    let m = roster.registry in
    let id = r.standing.id in
    let left = cond (has_seq (finite.get m id) seq) false (is_live_in m seq) in
    let after = ap (λ b. nat_lt (suc n) seq || b) (live_insert n m r seq next is) in
    elim (cases_order (suc n) seq) [
      | inl same ↦ waits n m id seq is (omega arith)
          ∙ sym (after
          ∙ ap₂ (λ b c. b || cond c true left) (not_lt (suc n) seq (omega arith)) (numbers_same (suc n) seq same))
      | inr (inl less) ↦ waits n m id seq is (omega arith)
          ∙ sym (ap (λ b. b || is_live_in (roster_with roster r).registry seq) (is_lt (suc n) seq less))
      | inr (inr more) ↦ listed_one n m id seq (omega arith)
          ∙ sym (after
          ∙ ap₂ (λ b c. b || cond c true left) (not_lt (suc n) seq (omega arith)) (number_more (suc n) seq more))
    ]

pub one_less : (roster : Roster) (id : List ℕ) (seq : ℕ) → IsNumbered roster.listed roster.registry
    → cond (has_seq (finite.get roster.registry id) seq) false (has_or_awaits roster seq)
    ≡ has_or_awaits (roster_without roster (id ∷ [])) seq
one_less roster id seq is =
    let n = roster.listed in
    let m = roster.registry in
    elim (cases_lt n seq) [
      | inl above ↦ waits n m id seq is above
          ∙ sym (ap (λ b. b || is_live_in (finite.remove m id) seq) (is_lt n seq above))
      | inr low ↦ listed_one n m id seq low
          ∙ sym (ap₂ (λ b c. b || c) (not_lt n seq low) (live_remove n m id seq is))
    ]

-- one seq more has gone
pub gone_more : (first before after : Roster) (gone : List ℕ) (found : Option Registered) → HaveGone gone first before
    → ((seq : ℕ) → cond (has_seq found seq) false (has_or_awaits before seq) ≡ has_or_awaits after seq)
    → HaveGone (gone ++ seqs_given found) first after
gone_more first before after gone found have step =
    λ seq. ap (λ is. is seq) (without-append gone (seqs_given found) (has_or_awaits first))
    ∙ found_without found (without_all gone (has_or_awaits first)) seq
    ∙ ap (cond (has_seq found seq) false) (have seq) ∙ step seq

-- ---- what was listed

listed_live : (roster : Roster) (seq : ℕ) → seq ≤ roster.listed
    → has_or_awaits roster seq ≡ is_live_in roster.registry seq
listed_live roster seq low = ap (λ b. b || is_live_in roster.registry seq) (not_lt roster.listed seq low)

pub flags_had : (roster : Roster) (segments : List (List Registered))
    → All (λ r. r.seq ≤ roster.listed) (all_entries segments)
    → flags_in roster.registry segments ≡ flags_by (has_or_awaits roster) segments
flags_had roster segments within =
    alike_by (is_live_in roster.registry) (has_or_awaits roster) segments
    (λ k d lt. sym (listed_live roster (get_or (all_entries segments) k d).seq (within k d lt)))

pub flags_left : (before after : Roster) (gone : List ℕ) (segments : List (List Registered))
    → HaveGone gone before after → before.listed ≤ after.listed
    → All (λ r. r.seq ≤ before.listed) (all_entries segments)
    → flags_by (without_all gone (has_or_awaits before)) segments ≡ flags_in after.registry segments
flags_left before after gone segments have more within =
    alike_by (without_all gone (has_or_awaits before)) (is_live_in after.registry) segments
    (λ k d lt. let seq = (get_or (all_entries segments) k d).seq in
    let low = within k d lt in
    have seq ∙ listed_live after seq (omega arith))

-- of those that were listed now those stand that have not gone
pub those_left : (before after : Roster) (gone : List ℕ) (ss : List Standing) → HaveGone gone before after
    → after.listed ≡ before.listed + length ss
    → filter (λ r. without_all gone (λ _. true) r.seq) (numbered before.listed ss)
    ≡ filter (λ r. is_live_in after.registry r.seq) (numbered before.listed ss)
those_left before after gone ss have count =
    let rs = numbered before.listed ss in
    filter_same (λ r. without_all gone (λ _. true) r.seq) (λ r. is_live_in after.registry r.seq) rs
    (λ r h. let above = All-contains (λ (q : Registered). before.listed < q.seq) rs r
    (numbered_high before.listed ss) h in
    let below = All-contains (λ (q : Registered). q.seq ≤ before.listed + length ss) rs r
    (numbered_low before.listed ss) h in
    without_alike gone (λ _. true) (has_or_awaits before) r.seq
    (sym (ap (λ b. b || is_live_in before.registry r.seq) (is_lt before.listed r.seq above)))
    ∙ have r.seq ∙ listed_live after r.seq (omega arith))
