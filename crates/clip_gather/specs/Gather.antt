-- What the parts of a divided registry find, put together.
use Rattle.std.specs.Prelude.{◌≡◌, ℕ, ◌<◌, List, [], map, slice_index_or}
use Rattle.clip_meaning.specs.Article.{ArticleValue}
use Rattle.clip_model.specs.History.{History}
use Rattle.clip_model.specs.Alerts.{Alert, alerts}
use Rattle.clip_model.specs.Shards.{Division, shard}
use Rattle.clip_standing.specs.Alerts.{alert_value}
use Rattle.clip_standing.specs.declared.alert.Alerts.{Alerts}
use Rattle.clip_gather.specs.Merged.{NeverFalls}

-- the alerts that a part found
abbrev pub found_by : Alerts → List Alert
found_by part = map alert_value part.alerts.items

-- alerts stand by the ids of their queries
abbrev pub query_of : Alert → List ℕ
query_of a = a.query

-- what part k found
abbrev pub given : {A : Type 0} → List (List A) → ℕ → List A
given parts k = slice_index_or parts k []

-- the parts found what is due at the parts of the history
abbrev pub AreOfShards : Division → History → ArticleValue → (ℕ → List Alert) → Type 0
AreOfShards d h article give = (k : ℕ) → k < d.parts → give k ≡ alerts (shard d k h) article

-- of no history do an article's alerts fall
abbrev pub AlertsNeverFall : Type 0
AlertsNeverFall = (h : History) (article : ArticleValue) → NeverFalls query_of (alerts h article)
