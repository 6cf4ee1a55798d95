-- A registry is kept through commands.
use Rattle.std.proofs.Common.{◌≡◌, ℕ, Bool, suc, ◌+◌, ◌-◌, ◌<◌, ◌≤◌, cond, List, length, get_or, set, sym, ap, subst}
use Rattle.std.proofs.Common.{◌∙◌, inl, inr, arith, IsTrue}
use Rattle.std.proofs.lemmas.Bool.{cases_order}
use Rattle.std.proofs.lemmas.List.{get_or_default, get_or-set_same, get_or-set_other}
use Rattle.std.proofs.Math.ListN.{length-set}
use Rattle.std.specs.FinMap as finite
use Rattle.clip_model.specs.declared.limits.TheConstants.{MOST_CALLERS, MOST_ENTRIES, MOST_LIVE}
use Rattle.clip_model.specs.History.{History, Command, replay, listed, lists, own, fits, applied_to, with_command}
use Rattle.clip_model.specs.History.{next_entry, after_command}
use Rattle.clip_model.proofs.Replay.{replays_on, listed_on}
use Rattle.clip_model.proofs.Legal.{goes_on, legal_beginning, room_from}
use Rattle.clip_standing.specs.Command.{answer_of}
use Rattle.clip_registry.specs.Steps.Change.{Content, IsChanged, IsAccepted}
use Rattle.clip_standing.specs.declared.command.Applied.{Applied}
use Rattle.clip_registry.specs.Steps.State.{IsConsistent}
use Rattle.clip_registry.specs.Steps.Roster.{Roster}
use Rattle.clip_registry.specs.RegistryState.{RegistryState, segments_after, beginning}
use Rattle.clip_model.proofs.Counting.{own_more}
use Rattle.clip_registry.proofs.Whole.{whole_after, whole_beginning}
use Rattle.clip_model.proofs.Numbers.{numbers_same, number_less, number_more}

pub consistent_beginning : (keeps : Bool) (counts : List ℕ) (roster : Roster) → roster.registry ≡ finite.empty
    → roster.listed ≡ 0 → length counts ≡ MOST_CALLERS → ((k : ℕ) → k < MOST_CALLERS → get_or counts k 0 ≡ 0)
    → IsConsistent (beginning keeps) roster counts
consistent_beginning keeps counts roster registry listed callers zeros = record {
  whole = whole_beginning keeps;
  legal = legal_beginning;
  registry = registry;
  listed = listed;
  callers = callers;
  numbers = λ caller low high. zeros (caller - 1) (omega arith);
}

-- what is read at a caller's place
pub counted : (counts : List ℕ) (k x n : ℕ) → k < length counts → x ≡ get_or counts k x → get_or counts k 0 ≡ n → x ≡ n
counted counts k x n lt at is = at ∙ get_or_default counts k x 0 lt ∙ is

counts_after : (h : History) (counts : List ℕ) (caller : ℕ) (command : Command) (x : ℕ) → length counts ≡ MOST_CALLERS
    → 0 < caller → caller ≤ MOST_CALLERS → x ≡ length (own h caller)
    → ((c : ℕ) → 0 < c → c ≤ MOST_CALLERS → get_or counts (c - 1) 0 ≡ length (own h c))
    → (c : ℕ) → 0 < c → c ≤ MOST_CALLERS → get_or (set counts (caller - 1) (x + 1)) (c - 1) 0
    ≡ length (own (with_command h caller command) c)
counts_after h counts caller command x callers low high is before c above below =
    let e = next_entry h caller command in
    elim (cases_order caller c) [
      | inl same ↦
          ap (λ k. get_or (set counts (caller - 1) (x + 1)) (k - 1) 0) (sym same)
          ∙ get_or-set_same counts (caller - 1) (x + 1) 0 (omega arith)
          ∙ (let n : x + 1 ≡ suc (length (own h c)) = let k = ap (λ c. length (own h c)) same in omega arith in n)
          ∙ sym (own_more h e c ∙ ap (λ b. cond b (suc (length (own h c))) (length (own h c)))
          (numbers_same caller c same))
      | inr (inl less) ↦ get_or-set_other counts (caller - 1) (c - 1) (x + 1) 0 (λ k. omega arith)
          ∙ before c above below
          ∙ sym (own_more h e c ∙ ap (λ b. cond b (suc (length (own h c))) (length (own h c)))
          (number_less caller c less))
      | inr (inr more) ↦ get_or-set_other counts (caller - 1) (c - 1) (x + 1) 0 (λ k. omega arith)
          ∙ before c above below
          ∙ sym (own_more h e c ∙ ap (λ b. cond b (suc (length (own h c))) (length (own h c)))
          (number_more caller c more))
    ]

-- ---- after a command

-- what a change of segments and roster does to the registry
pub accepted_after : (state new : RegistryState) (roster : Roster) (after : Content) (given : Applied)
    (counts : List ℕ) (caller : ℕ) (command : Command) → IsConsistent state roster counts
    → length state.history < MOST_ENTRIES
    → IsChanged command (record { segments = state.segments; roster = roster }) after given
    → new ≡ record state { segments = after.segments; history = with_command state.history caller command }
    → IsAccepted caller command state new given
accepted_after state new roster after given counts caller command kept short change is =
    let registry : after.roster.registry ≡ after_command (listed state.history) command (replay state.history) =
    change.registry ∙ ap (λ n. after_command n command roster.registry) kept.listed
    ∙ ap (after_command (listed state.history) command) kept.registry in
    let segments : after.segments
    ≡ segments_after state.segments (listed state.history) (replay state.history) command =
    change.segments ∙ ap (λ n. segments_after state.segments n roster.registry command) kept.listed
    ∙ ap (λ m. segments_after state.segments (listed state.history) m command) kept.registry in
    record {
      room = room_from state.history command (subst (λ m. finite.len m ≤ MOST_LIVE) registry change.small) short;
      state = is ∙ (λ i. record state { segments = segments i; history = with_command state.history caller command });
      answer = change.answer ∙ ap (λ m. answer_of command (applied_to m command)) kept.registry;
    }

pub consistent_after : (state new : RegistryState) (roster : Roster) (after : Content) (given : Applied)
    (counts : List ℕ) (caller : ℕ) (command : Command) (x : ℕ) → IsConsistent state roster counts
    → IsTrue (fits command) → 0 < caller → caller ≤ MOST_CALLERS
    → IsChanged command (record { segments = state.segments; roster = roster }) after given
    → IsAccepted caller command state new given → x ≡ length (own state.history caller)
    → IsConsistent new after.roster (set counts (caller - 1) (x + 1))
consistent_after state new roster after given counts caller command x kept fit low high change accepted at =
    let e = next_entry state.history caller command in
    let registry : after.roster.registry ≡ after_command (listed state.history) command (replay state.history) =
    change.registry ∙ ap (λ n. after_command n command roster.registry) kept.listed
    ∙ ap (after_command (listed state.history) command) kept.registry in
    subst (λ s. IsConsistent s after.roster (set counts (caller - 1) (x + 1))) (sym accepted.state) (record {
      whole = whole_after state caller command kept.whole;
      legal = goes_on state.history caller command kept.legal low high fit accepted.room;
      registry = registry ∙ sym (replays_on state.history e);
      listed = change.listed ∙ ap (λ n. n + lists command) kept.listed ∙ sym (listed_on state.history e);
      callers = length-set counts (caller - 1) (x + 1) ∙ kept.callers;
      numbers = counts_after state.history counts caller command x kept.callers low high at kept.numbers;
    })
