-- What is due to an article, before its alerts are made.
use Rattle.std.specs.Prelude.{◌≡◌, ◌≤◌, ◌-◌, true, List, length, map, take, drop, is_some, IfSome}
use Rattle.std.specs.List.{All}
use Rattle.clip_meaning.specs.Article.{ArticleValue}
use Rattle.clip_meaning.specs.Hits.{HitValue, hit_value, hits}
use Rattle.clip_model.specs.History.{Registered}
use Rattle.clip_standing.specs.Alerts.{AlertsValue}
use Rattle.clip_match.specs.Alerts.{alert_due}
use Rattle.clip_match.specs.declared.held.Held.{Held}
use Rattle.clip_match.specs.declared.held.HitPlaces.{HitPlaces}
use Rattle.clip_match.specs.declared.entries.DueEntries.{DueEntries}

-- these hits stand in the list at the places
pub record StandAt (all found : List HitValue) (places : HitPlaces) : Type 0 where
  pub low : places.start ≤ places.end
  pub high : places.end ≤ length all
  pub are : take (places.end - places.start) (drop places.start all) ≡ found

-- the hits that were found are those of the entry's query in the article, and stand in the list of those of all
abbrev pub AreItsHits : ArticleValue → List HitValue → Held → Type 0
AreItsHits article all held = IfSome held.hits (StandAt all (hits held.registered.now.standing.tree article.fields))

-- the alerts that are made of it
abbrev pub due_value : DueEntries → AlertsValue
due_value due = record {
  article = due.article.now.id;
  place = due.place;
  asked = due.asked;
  alerts = map (alert_due due.article.now) (map (λ h. h.registered.now) due.held.items);
}

-- the hits that were found are those of the queries in the article
abbrev pub AreTheirHits : DueEntries → Type 0
AreTheirHits due =
    All (AreItsHits due.article.now (map hit_value due.all_hits.value.items)) due.held.items

-- the hits of each query were found
abbrev pub HaveTheirHits : DueEntries → Type 0
HaveTheirHits due = All (λ h. is_some h.hits ≡ true) due.held.items

-- at most one plan was judged for each candidate, and one was for each query that is due
pub record AreJudged (candidates : List Registered) (due : DueEntries) : Type 0 where
  pub most : due.judged ≤ length candidates
  pub least : length due.held.items ≤ due.judged
