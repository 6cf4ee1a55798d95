use Rattle.std.proofs.Common.{◌≡◌, ◌||◌, ◌∷◌, [], not, All, List, ℕ, None, Option, Some, ap, ◌∙◌, false, is_some, map}
use Rattle.std.proofs.Common.{refl, sym, true}
use Rattle.std.specs.List.{list_any}
use Rattle.std.proofs.lemmas.List.Elements.{All-map}
use Rattle.std.proofs.lemmas.List.Folds.{list_any_at}
use Rattle.clip_standing.specs.Alerts.{alert_value}
use Rattle.clip_standing.specs.declared.alert.Alert.{Alert}
use Rattle.clip_protocol.proofs.found.Found.shown.Goals as goal

none_if : (o : Option (List ℕ)) → (is_some o ≡ true → ⊥) → o ≡ None
none_if None h = refl
none_if (Some x) h = absurd (h refl)

-- where no alert has a listener, each has none
unheard : (alerts : List Alert) → list_any (λ a. is_some (alert_value a).listener) alerts ≡ false
    → All (λ a. a.listener ≡ None) (map alert_value alerts)
unheard alerts none =
    All-map (λ a. a.listener ≡ None) alert_value alerts (λ k d h. none_if _ (λ some.
    let one : list_any (λ a. is_some (alert_value a).listener) alerts ≡ true =
    list_any_at (λ a. is_some (alert_value a).listener) alerts k d h some in cc))

pub of-requires : goal.of-requires
of-requires c = unheard c.args.alerts.alerts.items
    (sym (ap (list_any (λ a. is_some (alert_value a).listener)) c.deref.ensures.value)
    ∙ sym c.have_listener-is_heard.ensures ∙ c.if-is_heard.false)

-- whether one has a listener, asked of what they are
heard : (alerts : List Alert) → list_any (λ a. is_some a.listener) (map alert_value alerts)
    ≡ list_any (λ a. is_some (alert_value a).listener) alerts
heard [] = refl
heard (a ∷ alerts) = ap (λ b. is_some (alert_value a).listener || b) (heard alerts)

pub returns-then-is_heard-clause-unheard : goal.returns-then-is_heard-clause-unheard
returns-then-is_heard-clause-unheard c =
    sym (ap not (heard c.args.alerts.alerts.items
    ∙ sym (ap (list_any (λ a. is_some (alert_value a).listener)) c.deref.ensures.value)
    ∙ sym c.have_listener-is_heard.ensures ∙ c.if-is_heard.true))

pub returns-clause-unheard : goal.returns-clause-unheard
returns-clause-unheard c =
    sym (ap not (heard c.args.alerts.alerts.items
    ∙ sym (ap (list_any (λ a. is_some (alert_value a).listener)) c.deref.ensures.value)
    ∙ sym c.have_listener-is_heard.ensures ∙ c.if-is_heard.false))
