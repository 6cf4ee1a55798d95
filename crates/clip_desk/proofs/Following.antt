-- Listeners follow a history that goes on.
use Rattle.std.proofs.Common.{◌≡◌, ℕ, zero, suc, ◌+◌, List, [], ◌∷◌, ◌++◌, length, slice_get, Some, refl, sym, ap}
use Rattle.std.proofs.Common.{subst, ◌∙◌, arith, inl, inr, append_assoc, append-nil}
use Rattle.std.proofs.lemmas.Option.{slice_get_within, slice_get_cases}
use mathlib.Core.List.{IsPrefix}
use Rattle.clip_model.specs.History.{Command, Register, Delete, Clear, History, HistoryEntry}
use Rattle.clip_desk.specs.Updates.{Event, Updated, Deleted, Cleared, Purged, event_of, events_of, without_purges}
use Rattle.clip_desk.specs.Updates.{purges_in}
use Rattle.clip_desk.specs.Updates.{Heard, IsTold, hears, misses, is_passed, AreTold, Follows, AllFollow, all_heard}

prefix_of_same : {A : Type 0} (xs ys : List A) → xs ≡ ys → IsPrefix xs ys
prefix_of_same [] ys e = (ys, refl)
prefix_of_same (x ∷ xs) [] e = absurd cc
prefix_of_same (x ∷ xs) (y ∷ ys) e = let rest = prefix_of_same xs ys cc in (rest.0, cc (rest.1))

prefix_grows : {A : Type 0} (xs ys zs : List A) → IsPrefix xs ys → IsPrefix xs (ys ++ zs)
prefix_grows xs ys zs p = (p.0 ++ zs, sym (append_assoc xs p.0 zs) ∙ ap (λ l. l ++ zs) p.1)

-- the event of a command is heard last
told_by_command : (events : List Event) (command : Command) → without_purges (events ++ event_of command ∷ [])
    ≡ without_purges events ++ event_of command ∷ []
told_by_command [] (Register standings) = refl
told_by_command [] (Delete ids) = refl
told_by_command [] Clear = refl
told_by_command (Updated ids ∷ events) command = ap (λ l. Updated ids ∷ l) (told_by_command events command)
told_by_command (Deleted ids ∷ events) command = ap (λ l. Deleted ids ∷ l) (told_by_command events command)
told_by_command (Cleared ∷ events) command = ap (λ l. Cleared ∷ l) (told_by_command events command)
told_by_command (Purged ∷ events) command = told_by_command events command

told_by_purge : (events : List Event) → without_purges (events ++ Purged ∷ []) ≡ without_purges events
told_by_purge [] = refl
told_by_purge (Updated ids ∷ events) = ap (λ l. Updated ids ∷ l) (told_by_purge events)
told_by_purge (Deleted ids ∷ events) = ap (λ l. Deleted ids ∷ l) (told_by_purge events)
told_by_purge (Cleared ∷ events) = ap (λ l. Cleared ∷ l) (told_by_purge events)
told_by_purge (Purged ∷ events) = told_by_purge events

-- a command tells of no purge
purges_by_command : (events : List Event) (command : Command) → purges_in (events ++ event_of command ∷ [])
    ≡ purges_in events
purges_by_command [] (Register standings) = refl
purges_by_command [] (Delete ids) = refl
purges_by_command [] Clear = refl
purges_by_command (Updated ids ∷ events) command = purges_by_command events command
purges_by_command (Deleted ids ∷ events) command = purges_by_command events command
purges_by_command (Cleared ∷ events) command = purges_by_command events command
purges_by_command (Purged ∷ events) command = ap suc (purges_by_command events command)

purges_by_purge : (events : List Event) → purges_in (events ++ Purged ∷ []) ≡ purges_in events + 1
purges_by_purge [] = refl
purges_by_purge (Updated ids ∷ events) = purges_by_purge events
purges_by_purge (Deleted ids ∷ events) = purges_by_purge events
purges_by_purge (Cleared ∷ events) = purges_by_purge events
purges_by_purge (Purged ∷ events) = let h = purges_by_purge events in omega (arith, h)

events_more : (history : History) (e : HistoryEntry) → events_of (history ++ e ∷ [])
    ≡ events_of history ++ event_of e.command ∷ []
events_more [] e = refl
events_more (d ∷ history) e = ap (λ l. event_of d.command ∷ l) (events_more history e)

-- what is to be heard is one event longer
wanted_more : (before : List Event) (history : History) (e : HistoryEntry) → before ++ events_of (history ++ e ∷ [])
    ≡ (before ++ events_of history) ++ event_of e.command ∷ []
wanted_more before history e = ap (λ l. before ++ l) (events_more history e)
    ∙ sym (append_assoc before (events_of history) (event_of e.command ∷ []))

module _ (before : List Event) (history : History) (n : ℕ) (h w : Heard) (follows : Follows before history n h) where
  abbrev first : List Event
  first = without_purges before

  front_more : (e : HistoryEntry) → IsPrefix (without_purges h.events) (first ++ events_of (history ++ e ∷ []))
  front_more e =
      subst (λ (events : List Event). IsPrefix (without_purges h.events) events) (sym (wanted_more first history e))
      (prefix_grows _ _ (event_of e.command ∷ []) follows.front)

  one_more : (e : HistoryEntry) → IsTold (event_of e.command) h w → Follows before (history ++ e ∷ []) n w
  one_more e (hears unmarked is) =
      let all : without_purges (h.events ++ event_of e.command ∷ []) ≡ first ++ events_of (history ++ e ∷ []) =
      told_by_command h.events e.command ∙ ap (λ l. l ++ event_of e.command ∷ []) (follows.whole unmarked)
      ∙ sym (wanted_more first history e) in
      let same = purges_by_command h.events e.command in
      let few = follows.no_more in
      rw is (record {
        whole = λ _. all;
        front = prefix_of_same _ _ all;
        purged = λ _. same ∙ follows.purged unmarked;
        no_more = omega (arith, same, few);
      })
  one_more e (misses unmarked is) = rw is (record {
    whole = λ no. absurd cc;
    front = front_more e;
    purged = λ no. absurd cc;
    no_more = follows.no_more;
  })
  one_more e (is_passed marked is) = rw is (record {
    whole = λ no. absurd cc;
    front = front_more e;
    purged = λ no. absurd cc;
    no_more = follows.no_more;
  })

  purge_more : IsTold Purged h w → Follows before history (n + 1) w
  purge_more (hears unmarked is) =
      let same = told_by_purge h.events in
      let one = purges_by_purge h.events in
      let few = follows.no_more in
      let all = follows.purged unmarked in
      rw is (record {
        whole = λ _. same ∙ follows.whole unmarked;
        front =
            subst (λ (events : List Event). IsPrefix events (first ++ events_of history)) (sym same) follows.front;
        purged = λ _. omega (arith, one, all);
        no_more = omega (arith, one, few);
      })
  purge_more (misses unmarked is) =
      let few = follows.no_more in
      rw is (record {
        whole = λ no. absurd cc;
        front = follows.front;
        purged = λ no. absurd cc;
        no_more = omega (arith, few);
      })
  purge_more (is_passed marked is) =
      let few = follows.no_more in
      rw is (record {
        whole = λ no. absurd cc;
        front = follows.front;
        purged = λ no. absurd cc;
        no_more = omega (arith, few);
      })

-- a listener that stands after an event stood before
stood : (all new : List Heard) (k : ℕ) (w : Heard) → length new ≡ length all → slice_get new k ≡ Some w
    → (h : Heard) × (slice_get all k ≡ Some h)
stood all new k w same now =
    let within = slice_get_within new k w now in
    elim ((slice_get_cases all k).1) [
      | inl there ↦ (there.0, there.2)
      | inr past ↦
          absurd (let p = past.0 in omega arith)
    ]

module _ (before : List (List Event)) (history : History) (n : ℕ) (all new : List Heard)
    (follow : AllFollow before history n all) where
  -- each listener is told what an entry's command did
  pub all_follow_entry : (e : HistoryEntry) → AreTold (event_of e.command) all new
      → AllFollow before (history ++ e ∷ []) n new
  all_follow_entry e told = record {
    same = told.same ∙ follow.same;
    each = λ k b w had now. let h = stood all new k w told.same now in
        one_more b history n h.0 w (follow.each k b h.0 had h.1) e (told.each k h.0 w h.1 now);
  }

  -- each listener is told of a purge
  pub all_follow_purge : AreTold Purged all new → AllFollow before history (n + 1) new
  all_follow_purge told = record {
    same = told.same ∙ follow.same;
    each = λ k b w had now. let h = stood all new k w told.same now in
        purge_more b history n h.0 w (follow.each k b h.0 had h.1) (told.each k h.0 w h.1 now);
  }

as_many_heard : (all : List Heard) → length all ≡ length (all_heard all)
as_many_heard [] = refl
as_many_heard (h ∷ all) = ap suc (as_many_heard all)

heard_there : (all : List Heard) (k : ℕ) (b : List Event) (h : Heard) → slice_get (all_heard all) k ≡ Some b
    → slice_get all k ≡ Some h → h.events ≡ b
heard_there [] k b h had at = absurd (cc at)
heard_there (g ∷ all) zero b h had at = cc (had, at)
heard_there (g ∷ all) (suc k) b h had at = heard_there all k b h had at

follows_first : (b : List Event) (h : Heard) → h.events ≡ b → Follows b [] 0 h
follows_first b h heard =
    let same = ap without_purges heard ∙ sym (append-nil (without_purges b)) in
    let count = ap purges_in heard in
    record {
      whole = λ _. same;
      front = prefix_of_same _ _ same;
      purged = λ _. omega (arith, count);
      no_more = omega (arith, count);
    }

-- listeners follow a history that is still empty
pub all_follow_first : (all : List Heard) → AllFollow (all_heard all) [] 0 all
all_follow_first all = record {
  same = as_many_heard all;
  each = λ k b h had at. follows_first b h (heard_there all k b h had at);
}
