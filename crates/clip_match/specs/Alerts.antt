-- The alerts that are due to an article.
use Rattle.std.specs.Prelude.{length}
use Rattle.clip_meaning.specs.Article.{ArticleValue}
use Rattle.clip_model.specs.History.{Registered}
use Rattle.clip_model.specs.Alerts as model
use Rattle.clip_standing.specs.Alerts.{AlertsValue}
use Rattle.clip_registry.specs.RegistryState.{RegistryState}
use Rattle.clip_match.specs.Candidates.{candidates_of}

-- the alert of a query that holds of the article
abbrev pub alert_due : ArticleValue → Registered → model.Alert
alert_due article r = model.alert_of article (r.standing.id, r)

-- All alerts of the article after the history; the candidates, and no others, are tried.
abbrev pub alerts_due : RegistryState → ArticleValue → AlertsValue
alerts_due state article = record {
  article = article.id;
  place = length state.history;
  asked = length (candidates_of state article);
  alerts = model.alerts state.history article;
}
