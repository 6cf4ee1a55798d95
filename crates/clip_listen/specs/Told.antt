-- How the logic stores the alerts that a listener was told.
use Rattle.std.specs.Prelude.{ℕ, List, Option, refl}
use Rattle.std.specs.Coded.{Coded, code_by, coded×, coded_ℕ, coded_list, coded_option}
use Rattle.clip_model.specs.Alerts.{Alert}

abbrev text_code : Coded (List ℕ)
text_code = coded_list coded_ℕ

abbrev alert_code : Coded Alert
alert_code =
    code_by (List ℕ × (List ℕ × (Option (List ℕ) × List (List ℕ × ℕ))))
    (coded× text_code (coded× text_code (coded× (coded_option text_code) (coded_list (coded× text_code coded_ℕ)))))
    (λ a. (a.query, (a.article, (a.listener, a.hits))))
    (λ p. record { query = p.0; article = p.1.0; listener = p.1.1.0; hits = p.1.1.1 }) (λ _. refl)

abbrev pub alerts_code : Coded (List Alert)
alerts_code = coded_list alert_code
