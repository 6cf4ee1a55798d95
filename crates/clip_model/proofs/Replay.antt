-- A history that goes on.
use Rattle.std.proofs.Common.{◌≡◌, ℕ, ◌+◌, [], ◌∷◌, ◌++◌, sym, ap, ◌∙◌, add-zero, zero-add, add_assoc}
use Rattle.std.specs.FinMap as finite
use Rattle.clip_model.specs.History.{History, HistoryEntry, Registry, lists, listed, after_command, replay, replay_onto}
use Rattle.clip_model.specs.Laws.{ReplaysOn}

onto_one_more : (n : ℕ) (h : History) (e : HistoryEntry) (registry : Registry) → replay_onto n (h ++ e ∷ []) registry
    ≡ after_command (n + listed h) e.command (replay_onto n h registry)
onto_one_more n [] e registry = ap (λ k. after_command k e.command registry) (sym (add-zero n))
onto_one_more n (f ∷ h) e registry =
    onto_one_more (n + lists f.command) h e (after_command n f.command registry)
    ∙ ap (λ k. after_command k e.command (replay_onto (n + lists f.command) h (after_command n f.command registry)))
    (add_assoc n (lists f.command) (listed h))

pub replays_on : ReplaysOn
replays_on h e = onto_one_more 0 h e finite.empty ∙ ap (λ k. after_command k e.command (replay h)) (zero-add (listed h))

-- one entry more lists so many more
pub listed_on : (h : History) (e : HistoryEntry) → listed (h ++ e ∷ []) ≡ listed h + lists e.command
listed_on [] e = add-zero (lists e.command) ∙ sym (zero-add (lists e.command))
listed_on (f ∷ h) e = ap (λ k. lists f.command + k) (listed_on h e)
    ∙ sym (add_assoc (lists f.command) (listed h) (lists e.command))
