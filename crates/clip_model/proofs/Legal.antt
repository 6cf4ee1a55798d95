-- A legal history that goes on, and its fronts.
use Rattle.std.proofs.Common.{◌≡◌, ℕ, ◌<◌, ◌≤◌, ◌&&◌, nat_le, nat_lt, Bool, true, false, refl, suc, List, [], ◌∷◌, ◌++◌}
use Rattle.std.proofs.Common.{length, sym, ap, subst, ◌∙◌, arith, inl, inr, append_assoc, IsTrue}
use Rattle.std.proofs.Common.{length-append}
use Rattle.std.proofs.lemmas.Bool.Decides.{nat_tests}
use Rattle.std.specs.FinMap as finite
use Rattle.std.specs.FinMap.{len-empty}
use Rattle.clip_words.specs.Order.{bytes_cmp}
use Rattle.clip_model.specs.History.{History, HistoryEntry, Command, IsLegal, Registered, own, replay, listed}
use Rattle.clip_model.specs.History.{after_command, next_entry, has_room, fits}
use Rattle.clip_model.specs.declared.limits.TheConstants.{MOST_LIVE, MOST_ENTRIES, MOST_CALLERS}
use Rattle.clip_model.specs.Laws.{FrontsAreLegal, GoesOn}
use Rattle.clip_model.proofs.Replay.{replays_on}
use Rattle.clip_model.proofs.Splits.{entry_split, front_split}

pub fronts_are_legal : FrontsAreLegal
fronts_are_legal before after legal = record {
  callers = λ b a e h. legal.callers b (a ++ after) e (ap (λ x. x ++ after) h ∙ append_assoc b (e ∷ a) after);
  numbers = λ b a e h. legal.numbers b (a ++ after) e (ap (λ x. x ++ after) h ∙ append_assoc b (e ∷ a) after);
  commands = λ b a e h. legal.commands b (a ++ after) e (ap (λ x. x ++ after) h ∙ append_assoc b (e ∷ a) after);
  small = λ b a h. legal.small b (a ++ after) (ap (λ x. x ++ after) h ∙ append_assoc b a after);
  short = let s = legal.short in omega (arith, length-append before after, s);
}

-- what has room is small and short
pub room_small : (h : History) (command : Command) → IsTrue (has_room h command)
    → finite.len (after_command (listed h) command (replay h)) ≤ MOST_LIVE
room_small h command room = grind (arith, nat_tests)

pub room_short : (h : History) (command : Command) → IsTrue (has_room h command) → length h < MOST_ENTRIES
room_short h command room = grind (arith, nat_tests)

pub goes_on : GoesOn
goes_on h caller command legal low high fit room =
    let last = next_entry h caller command in
    record {
      callers = λ before after e parts. elim (entry_split h before after last e parts)
          as (λ _. (0 < e.caller) × (e.caller ≤ MOST_CALLERS)) [
            | inl same ↦ subst (λ (f : HistoryEntry). (0 < f.caller) × (f.caller ≤ MOST_CALLERS)) same.1 (low, high)
            | inr (rest, same) ↦ legal.callers before rest e same
          ];
      numbers = λ before after e parts. elim (entry_split h before after last e parts)
          as (λ _. e.number ≡ suc (length (own before e.caller))) [
            | inl same ↦ subst (λ (f : HistoryEntry). f.number ≡ suc (length (own before f.caller))) same.1
                (ap (λ g. suc (length (own g caller))) same.0)
            | inr (rest, same) ↦ legal.numbers before rest e same
          ];
      commands = λ before after e parts. elim (entry_split h before after last e parts)
          as (λ _. IsTrue (fits e.command)) [
            | inl same ↦ subst (λ (f : HistoryEntry). IsTrue (fits f.command)) same.1 fit
            | inr (rest, same) ↦ legal.commands before rest e same
          ];
      small = λ before after parts. elim (front_split h before after last parts)
          as (λ _. finite.len (replay before) ≤ MOST_LIVE) [
            | inl same ↦ subst (λ (g : History). finite.len (replay g)
                ≤ MOST_LIVE) (sym same) (subst (λ r. finite.len r ≤ MOST_LIVE) (sym (replays_on h last))
                (room_small h command room))
            | inr (rest, same) ↦ legal.small before rest same
          ];
      short = let s = room_short h command room in omega (arith, length-append h (last ∷ []), s);
    }

-- no list ends with an entry and is empty
nothing_split : {A : Type 0} (before after : List A) (x : A) → [] ≡ before ++ x ∷ after → ⊥
nothing_split before after x h = let e = ap length h in absurd (omega (arith, length-append before (x ∷ after), e))

nothing_front : (before after : History) → [] ≡ before ++ after → before ≡ []
nothing_front [] after h = refl
nothing_front (b ∷ before) after h = cc

pub legal_beginning : IsLegal []
legal_beginning = record {
  callers = λ before after e h. absurd (nothing_split before after e h);
  numbers = λ before after e h. absurd (nothing_split before after e h);
  commands = λ before after e h. absurd (nothing_split before after e h);
  small = λ before after h. subst (λ h. finite.len (replay h) ≤ MOST_LIVE) (sym (nothing_front before after h))
      (let e = len-empty bytes_cmp Registered in omega arith);
  short = omega arith;
}

-- small and short histories have room
pub room_from : (h : History) (command : Command) → finite.len (after_command (listed h) command (replay h))
    ≤ MOST_LIVE → length h < MOST_ENTRIES → IsTrue (has_room h command)
room_from h command small short = both _ _ (small_test _ small) (short_test _ short)
  where
    both : (a b : Bool) → a ≡ true → b ≡ true → (a && b) ≡ true
    both true b p q = q
    both false b p q = p

    small_test : (n : ℕ) → n ≤ MOST_LIVE → nat_le n MOST_LIVE ≡ true
    small_test n h = grind (arith, nat_tests)

    short_test : (n : ℕ) → n < MOST_ENTRIES → nat_lt n MOST_ENTRIES ≡ true
    short_test n h = grind (arith, nat_tests)
