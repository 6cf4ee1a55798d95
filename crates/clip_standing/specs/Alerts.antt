-- The alerts of an article as contracts see them.
use Rattle.std.specs.Prelude.{ℕ, Bool, List, map, is_some}
use Rattle.std.specs.Arc.{arc_str_bytes}
use Rattle.clip_model.specs.Alerts as model
use Rattle.clip_standing.specs.declared.alert.Alert.{Alert}
use Rattle.clip_standing.specs.declared.alert.Alerts.{Alerts}

-- the article's id, the length of the history that was matched against, how many queries were tried, and the alerts
pub record AlertsValue : Type 0 where
  pub article : List ℕ
  pub place : ℕ
  pub asked : ℕ
  pub alerts : List model.Alert

abbrev pub alert_value : Alert → model.Alert
alert_value a = model.alert_for a.standing.value a.article

-- the alert carries its hits, which were found when it was made
abbrev pub has_hits : Alert → Bool
has_hits a = is_some a.found

abbrev pub alerts_value : Alerts → AlertsValue
alerts_value found = record {
  article = arc_str_bytes found.article;
  place = found.place;
  asked = found.asked;
  alerts = map alert_value found.alerts.items;
}
