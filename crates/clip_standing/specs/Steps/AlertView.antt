-- What is seen of an alert that is not made.
use Rattle.std.specs.Prelude.{ℕ, List, Option, map, option_map, refl}
use Rattle.std.specs.Coded.{Coded, code_by, coded×, coded_list, coded_option, coded_ℕ}
use Rattle.clip_grammar.specs.TreeCode.{bytes_code}
use Rattle.clip_meaning.specs.Hits.{HitValue, hit_value}
use Rattle.clip_model.specs.Alerts as model
use Rattle.clip_standing.specs.Steps.FoundHits.{AreFound}
use Rattle.clip_standing.specs.declared.view.AlertView.TheInside.{Inside}

abbrev pub alert_code : Coded model.Alert
alert_code = code_by (List ℕ × (List ℕ × (Option (List ℕ) × List HitValue)))
    (coded× bytes_code (coded× bytes_code (coded× (coded_option bytes_code) (coded_list (coded× bytes_code coded_ℕ)))))
    (λ a. (a.query, (a.article, (a.listener, a.hits))))
    (λ p. record { query = p.0; article = p.1.0; listener = p.1.1.0; hits = p.1.1.1 }) (λ _. refl)

-- what the alert would say
abbrev pub alert_seen : Inside → model.Alert
alert_seen v = model.alert_for v.standing.now.value v.article.now

-- the hits that were found, if they were, are those of the standing query in the article
abbrev pub HasFound : Inside → Type 0
HasFound v = AreFound v.standing.now.value v.article.now (option_map (λ hits. map hit_value hits.now) v.found)
