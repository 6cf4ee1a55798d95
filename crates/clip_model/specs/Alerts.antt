-- The alerts due to an article.
use Rattle.std.specs.Prelude.{ℕ, Bool, List, map, filter, Option}
use Rattle.std.specs.FinMap as finite
use Rattle.clip_meaning.specs.Article.{ArticleValue}
use Rattle.clip_meaning.specs.Hits.{HitValue, hits}
use Rattle.clip_meaning.specs.Meaning.{holds}
use Rattle.clip_model.specs.History.{History, Registered, Registry, replay}
use Rattle.clip_model.specs.Standing.{Standing}

-- the id of a query that holds, the id of the article that it holds of, the name of the query's listener, if it has
-- one, and where in the article the query holds
pub record Alert : Type 0 where
  pub query : List ℕ
  pub article : List ℕ
  pub listener : Option (List ℕ)
  pub hits : List HitValue

-- the alert of a standing query that holds of the article
abbrev pub alert_for : Standing → ArticleValue → Alert
alert_for standing article = record {
  query = standing.id;
  article = article.id;
  listener = standing.listener;
  hits = hits standing.tree article.fields;
}

abbrev pub holds_of : ArticleValue → List ℕ × Registered → Bool
holds_of article entry = holds entry.1.standing.tree article.fields

abbrev pub alert_of : ArticleValue → List ℕ × Registered → Alert
alert_of article entry = record {
  query = entry.0;
  article = article.id;
  listener = entry.1.standing.listener;
  hits = hits entry.1.standing.tree article.fields;
}

-- of the registered queries that hold of the article, in byte order of their ids
abbrev pub alerts_in : Registry → ArticleValue → List Alert
alerts_in registry article = map (alert_of article) (filter (holds_of article) (finite.entries registry))

abbrev pub alerts : History → ArticleValue → List Alert
alerts h article = alerts_in (replay h) article
