-- How the logic stores what the alerts of an article say.
use Rattle.std.specs.Prelude.{ℕ, List, refl}
use Rattle.std.specs.Coded.{Coded, code_by, coded×, coded_ℕ, coded_list}
use Rattle.clip_grammar.specs.TreeCode.{bytes_code}
use Rattle.clip_model.specs.Alerts.{Alert}
use Rattle.clip_standing.specs.Alerts.{AlertsValue}
use Rattle.clip_standing.specs.Steps.AlertView.{alert_code}

abbrev pub alerts_value_code : Coded AlertsValue
alerts_value_code =
    code_by (List ℕ × (ℕ × (ℕ × List Alert)))
    (coded× bytes_code (coded× coded_ℕ (coded× coded_ℕ (coded_list alert_code))))
    (λ v. (v.article, (v.place, (v.asked, v.alerts))))
    (λ p. record { article = p.0; place = p.1.0; asked = p.1.1.0; alerts = p.1.1.1 }) (λ _. refl)
