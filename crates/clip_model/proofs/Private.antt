-- The alerts of some ids, whatever stands under others.
use Rattle.std.proofs.Common.{◌≡◌, ℕ, Bool, true, false, cond, List, [], ◌∷◌, ◌++◌, refl, sym, ap, ◌∙◌, None}
use Rattle.std.specs.List.{filter}
use Rattle.clip_meaning.specs.Article.{ArticleValue}
use Rattle.clip_model.specs.History.{History, HistoryEntry, Command, Register, Delete, Clear, Registry, replay, listed}
use Rattle.clip_model.specs.History.{after_command}
use Rattle.clip_model.specs.Shards.{kept, kept_command, is_for, standing_of}
use Rattle.clip_model.specs.Alerts.{alerts}
use Rattle.clip_model.specs.Tenants.{AgreeOn, AlertsArePrivate, HeardIsPrivate, PassesBy, OthersPassBy}
use Rattle.clip_model.proofs.Divided.{IsPart, stands, part_replayed, part_after, part_alerts}
use Rattle.clip_model.proofs.Filters.{filter_swap}
use Rattle.clip_model.proofs.Replay.{replays_on}

-- a part of the one is a part of the other
shared_part : (keeps : List ℕ → Bool) (h g : History) → AgreeOn keeps h g
    → IsPart keeps (replay g) (replay (kept keeps h))
shared_part keeps h g same = record {
  at = λ id.
      (part_replayed keeps h).at id
      ∙ elim (keeps id) as (λ b. keeps id ≡ b
      → cond b (standing_of h id) None ≡ cond b (standing_of g id) None) [
        | true ↦ λ is. same id is
        | false ↦ λ _. refl
      ] refl;
}

pub alerts_are_private : AlertsArePrivate
alerts_are_private keeps h g article same =
    sym (part_alerts article keeps (replay h) (replay (kept keeps h)) (part_replayed keeps h))
    ∙ part_alerts article keeps (replay g) (replay (kept keeps h)) (shared_part keeps h g same)

pub heard_is_private : HeardIsPrivate
heard_is_private keeps h g name article same =
    filter_swap (λ a. keeps a.query) (is_for name) (alerts h article)
    ∙ ap (filter (is_for name)) (alerts_are_private keeps h g article same)
    ∙ filter_swap (is_for name) (λ a. keeps a.query) (alerts g article)

-- nothing of the command is kept
passed_by : (keeps : List ℕ → Bool) (n : ℕ) (c : Command) (k : Registry) → PassesBy keeps c
    → after_command n (kept_command keeps c) k ≡ k
passed_by keeps n (Register ss) k none = ap (λ ss. after_command n (Register ss) k) none
passed_by keeps n (Delete ids) k none = ap (λ ids. after_command n (Delete ids) k) none
passed_by keeps n Clear k none = absurd none

inside : (keeps : List ℕ → Bool) (m k : Registry) (id : List ℕ) → IsPart keeps m k → keeps id ≡ true
    → stands m id ≡ stands k id
inside keeps m k id are is = sym (are.at id ∙ ap (λ b. cond b (stands m id) None) is)

pub others_pass_by : OthersPassBy
others_pass_by keeps h e others id is =
    let part = replay (kept keeps h) in
    inside keeps (replay h) part id (part_replayed keeps h) is
    ∙ ap (λ k. stands k id) (sym (passed_by keeps 0 e.command part others))
    ∙ sym (inside keeps (after_command (listed h) e.command (replay h))
    (after_command 0 (kept_command keeps e.command) part)
    id (part_after keeps (listed h) 0 e.command (replay h) part (part_replayed keeps h)) is)
    ∙ ap (λ k. stands k id) (sym (replays_on h e))
