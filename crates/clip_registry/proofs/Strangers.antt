-- Who is no caller gave no command.
use Rattle.std.proofs.Common.{◌≡◌, ℕ, ◌<◌, ◌≤◌, ◌⊎◌, false, cond, [], ◌∷◌, ◌++◌, map, filter, refl, ap, ◌∙◌, inl, inr}
use Rattle.std.proofs.Common.{arith, ◌==◌}
use Rattle.std.proofs.lemmas.Bool.Decides.{nat_tests}
use Rattle.clip_model.specs.declared.limits.TheConstants.{MOST_CALLERS}
use Rattle.clip_model.specs.History.{History, HistoryEntry, IsLegal, own}

abbrev InRange : History → Type 0
InRange h = (before after : History) (e : HistoryEntry) → h ≡ before ++ e ∷ after
    → (0 < e.caller) × (e.caller ≤ MOST_CALLERS)

other : (caller stranger : ℕ) → 0 < caller → caller ≤ MOST_CALLERS → (stranger ≡ 0) ⊎ (MOST_CALLERS < stranger)
    → (caller == stranger) ≡ false
other caller stranger low high (inl none) = grind (arith, nat_tests)
other caller stranger low high (inr above) = grind (arith, nat_tests)

none_given : (h : History) (stranger : ℕ) → InRange h → (stranger ≡ 0) ⊎ (MOST_CALLERS < stranger) → own h stranger ≡ []
none_given [] stranger callers out = refl
none_given (e ∷ h) stranger callers out =
    let at = callers [] h e refl in
    let rest : own h stranger ≡ [] =
    none_given h stranger (λ before after f parts. callers (e ∷ before) after f (ap (λ x. e ∷ x) parts)) out in
    ap (λ b. map (λ (e : HistoryEntry). e.command)
    (cond b (e ∷ filter (λ e. e.caller == stranger) h) (filter (λ e. e.caller == stranger) h)))
    (other e.caller stranger at.0 at.1 out) ∙ rest

pub strangers_give_none : (h : History) (stranger : ℕ) → IsLegal h → (stranger ≡ 0) ⊎ (MOST_CALLERS < stranger)
    → own h stranger ≡ []
strangers_give_none h stranger legal out = none_given h stranger legal.callers out
