-- What was found of an article, as bytes.
use Rattle.std.specs.Prelude.{ℕ, List, [], ◌++◌, length, flat_map, Bool, if◌then◌else◌}
use Rattle.std.specs.Int.{w64, to_le_bytes}
use Rattle.clip_meaning.specs.Hits.{HitValue}
use Rattle.clip_model.specs.Alerts.{Alert}

-- a number as eight bytes, the lowest first
abbrev pub number_bytes : ℕ → List ℕ
number_bytes n = to_le_bytes w64 n

-- a text after its length
abbrev pub text_bytes : List ℕ → List ℕ
text_bytes text = number_bytes (length text) ++ text

-- the name of the field, and the position
abbrev pub hit_bytes : HitValue → List ℕ
hit_bytes hit = text_bytes hit.0 ++ number_bytes hit.1

-- hits after their count
abbrev pub hits_bytes : List HitValue → List ℕ
hits_bytes hits = number_bytes (length hits) ++ flat_map hit_bytes hits

-- the id of the query, and its hits where they are shown
abbrev pub alert_bytes : Bool → Alert → List ℕ
alert_bytes shows alert = text_bytes alert.query ++ hits_bytes (if shows then alert.hits else [])

-- alerts after their count
abbrev pub alerts_bytes : Bool → List Alert → List ℕ
alerts_bytes shows alerts = number_bytes (length alerts) ++ flat_map (alert_bytes shows) alerts

-- the id of a query, and no hits
abbrev pub plain_alert_bytes : List ℕ → List ℕ
plain_alert_bytes query = text_bytes query ++ hits_bytes []

-- these after their count
abbrev pub plain_alerts_bytes : List (List ℕ) → List ℕ
plain_alerts_bytes queries = number_bytes (length queries) ++ flat_map plain_alert_bytes queries

-- how many queries were tried, and the alerts
abbrev pub found_bytes : Bool → ℕ → List Alert → List ℕ
found_bytes shows asked alerts = number_bytes asked ++ alerts_bytes shows alerts

-- ids after their count
abbrev pub ids_bytes : List (List ℕ) → List ℕ
ids_bytes ids = number_bytes (length ids) ++ flat_map text_bytes ids
