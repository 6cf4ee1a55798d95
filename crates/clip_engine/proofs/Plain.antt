-- Alerts of which no hits are shown, by the ids of their queries.
use Rattle.std.proofs.Common.{◌≡◌, ℕ, ◌++◌, List, map, ap, ap₂, ◌∙◌, false}
use Rattle.std.proofs.lemmas.List.{length-map}
use Rattle.std.proofs.lemmas.List.Folds.{flat_map-map}
use Rattle.clip_model.specs.Alerts.{Alert}
use Rattle.clip_engine.specs.Found.{alerts_bytes, number_bytes, plain_alert_bytes, plain_alerts_bytes}

of_queries : (alerts : List Alert) → plain_alerts_bytes (map (λ a. a.query) alerts) ≡ alerts_bytes false alerts
of_queries alerts =
    ap₂ (λ n bytes. number_bytes n ++ bytes) (length-map alerts (λ a. a.query))
    (flat_map-map plain_alert_bytes (λ a. a.query) alerts)

pub plain_are : (alerts : List Alert) (queries : List (List ℕ)) (before after : List ℕ)
    → queries ≡ map (λ a. a.query) alerts → after ≡ before ++ plain_alerts_bytes queries
    → after ≡ before ++ alerts_bytes false alerts
plain_are alerts queries before after same added =
    added ∙ ap (λ qs. before ++ plain_alerts_bytes qs) same ∙ ap (λ b. before ++ b) (of_queries alerts)
