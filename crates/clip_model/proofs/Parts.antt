-- A part of a legal history.
use Rattle.std.proofs.Common.{◌≡◌, ℕ, suc, ◌<◌, ◌≤◌, ◌==◌, ◌&&◌, nat_le, Bool, true, false, cond, List, [], ◌∷◌, ◌++◌}
use Rattle.std.proofs.Common.{length, map, refl, sym, ap, subst, ◌∙◌, arith, IsTrue}
use Rattle.std.proofs.lemmas.Bool.Decides.{nat_tests}
use Rattle.std.proofs.lemmas.List.{length-map, map-append}
use Rattle.std.specs.List.{filter}
use Rattle.std.specs.FinMap as finite
use Rattle.clip_words.specs.Ids.{is_id}
use Rattle.clip_model.specs.History.{History, HistoryEntry, Command, Register, Delete, Clear, own, replay, listed, fits}
use Rattle.clip_model.specs.declared.limits.TheConstants.{MOST_LISTED, MOST_LIVE, MOST_CALLERS}
use Rattle.clip_model.specs.Shards.{kept_command, kept_entry, kept, PartsAreLegal, PartsGoOn, PartsHaveRoom}
use Rattle.clip_model.proofs.Filters.{filter_few, all_kept, map_front, both, first, second}
use Rattle.clip_model.proofs.Legal.{room_small, room_short, room_from}
use Rattle.clip_model.proofs.Divided.{part_less, part_after, part_replayed}

module _ (keeps : List ℕ → Bool) where
  -- each caller has as many commands
  kept_own : (h : History) (caller : ℕ) → length (own (kept keeps h) caller) ≡ length (own h caller)
  kept_own [] caller = refl
  kept_own (e ∷ h) caller =
      elim (e.caller == caller)
      as (λ b. length (map (λ (e : HistoryEntry). e.command)
      (cond b (kept_entry keeps e ∷ filter (λ e. e.caller == caller) (kept keeps h))
      (filter (λ e. e.caller == caller) (kept keeps h))))
      ≡ length (map (λ (e : HistoryEntry). e.command)
      (cond b (e ∷ filter (λ e. e.caller == caller) h) (filter (λ e. e.caller == caller) h)))) [
        | true ↦ ap suc (kept_own h caller)
        | false ↦ kept_own h caller
      ]

  fewer : (n k : ℕ) → n ≤ k → IsTrue (nat_le k MOST_LISTED) → IsTrue (nat_le n MOST_LISTED)
  fewer n k le h = grind (arith, nat_tests)

  kept_fits : (c : Command) → IsTrue (fits c) → IsTrue (fits (kept_command keeps c))
  kept_fits (Register ss) h = fewer _ _ (filter_few (λ s. keeps s.id) ss) h
  kept_fits (Delete ids) h =
      both _ _ (fewer _ _ (filter_few keeps ids) (first _ _ h)) (all_kept is_id keeps ids (second _ _ h))
  kept_fits Clear h = h

  -- the entry of the whole that an entry of the part comes from
  record Comes (h before : History) (e : HistoryEntry) : Type 0 where
    front : History
    back : History
    entry : HistoryEntry
    whole : h ≡ front ++ entry ∷ back
    fronts : before ≡ kept keeps front
    same : e ≡ kept_entry keeps entry

  comes : (h before after : History) (e : HistoryEntry) → kept keeps h ≡ before ++ e ∷ after → Comes h before e
  comes h before after e is =
      let at = map_front (kept_entry keeps) h before (e ∷ after) is in
      last h before after e at.0 at.1 at.2 at.3 at.4
    where
      last : (h before after : History) (e : HistoryEntry) (front back : History) → h ≡ front ++ back
          → before ≡ kept keeps front → e ∷ after ≡ kept keeps back → Comes h before e
      last h before after e front [] whole fronts rest = cc
      last h before after e front (f ∷ back) whole fronts rest =
          record { front = front; back = back; entry = f; whole = whole; fronts = fronts; same = cc }

pub parts_are_legal : PartsAreLegal
parts_are_legal keeps h legal = record {
  callers = λ before after e is. let at = comes keeps h before after e is in
      subst (λ (f : HistoryEntry). (0 < f.caller) × (f.caller ≤ MOST_CALLERS)) (sym at.same)
      (legal.callers at.front at.back at.entry at.whole);
  numbers = λ before after e is. let at = comes keeps h before after e is in
      subst (λ (f : HistoryEntry). f.number ≡ suc (length (own before f.caller))) (sym at.same)
      (legal.numbers at.front at.back at.entry at.whole ∙ ap suc (sym (kept_own keeps at.front at.entry.caller))
      ∙ ap (λ g. suc (length (own g at.entry.caller))) (sym at.fronts));
  commands = λ before after e is. let at = comes keeps h before after e is in
      subst (λ (f : HistoryEntry). IsTrue (fits f.command)) (sym at.same)
      (kept_fits keeps at.entry.command (legal.commands at.front at.back at.entry at.whole));
  small = λ before after is.
      let at = map_front (kept_entry keeps) h before after is in
      let less = part_less keeps (replay at.0) (replay (kept keeps at.0)) (part_replayed keeps at.0) in
      let few = legal.small at.0 at.1 at.2 in
      subst (λ (g : History). finite.len (replay g) ≤ MOST_LIVE) (sym at.3) (omega arith);
  short = let s = legal.short in let same = length-map h (kept_entry keeps) in omega arith;
}

pub parts_go_on : PartsGoOn
parts_go_on keeps h caller command =
    map-append (kept_entry keeps) h _
    ∙ ap (λ n. kept keeps h ++ record { caller = caller; number = suc n; command = kept_command keeps command } ∷ [])
    (sym (kept_own keeps h caller))

pub parts_have_room : PartsHaveRoom
parts_have_room keeps h command room =
    let small = room_small h command room in
    let short = room_short h command room in
    let same = length-map h (kept_entry keeps) in
    let less = part_less keeps _ _
    (part_after keeps (listed h) (listed (kept keeps h)) command (replay h) (replay (kept keeps h))
    (part_replayed keeps h)) in
    room_from (kept keeps h) (kept_command keeps command) (omega arith) (omega arith)
