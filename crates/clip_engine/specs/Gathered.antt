-- What parts of a divided registry found of an article, put together.
use Rattle.std.specs.Prelude.{◌≡◌, ◌⊎◌, ℕ, ◌<◌, ◌≤◌, ◌^◌, List, [], ◌++◌, length, map}
use Rattle.std.specs.Prelude.{flat_map, sum_by, Bool, if◌then◌else◌}
use Rattle.clip_meaning.specs.Article.{ArticleValue}
use Rattle.clip_model.specs.History.{History}
use Rattle.clip_model.specs.Alerts.{Alert, alerts}
use Rattle.clip_model.specs.Shards.{Division, shard}
use Rattle.clip_gather.specs.Gather.{given}
use Rattle.clip_gather.specs.Merged.{NoneFalls, merged_all}
use Rattle.clip_engine.specs.Found.{found_bytes, hits_bytes, number_bytes, text_bytes}
use Rattle.clip_engine.specs.declared.code.TheConstants.{LIMIT, NO_MEMORY, ORDER}
use Rattle.clip_engine.specs.declared.parts.Part.{Part}
use Rattle.clip_engine.specs.declared.parts.Told.{Told}

-- an id, and what goes with it
abbrev pub told_of : Told → List ℕ × List ℕ
told_of t = (t.id.now, t.rest.now)

abbrev pub told_in : Part → List (List ℕ × List ℕ)
told_in part = map told_of part.told.now

abbrev pub id_of : List ℕ × List ℕ → List ℕ
id_of t = t.0

-- how many queries the parts tried
abbrev pub asked_in : List Part → ℕ
asked_in parts = sum_by (λ part. part.asked) parts

-- the id after its length, and what goes with it
abbrev pub told_bytes : List ℕ × List ℕ → List ℕ
told_bytes t = text_bytes t.0 ++ t.1

-- what is told after its count
abbrev pub all_bytes : List (List ℕ × List ℕ) → List ℕ
all_bytes all = number_bytes (length all) ++ flat_map told_bytes all

-- how many queries all parts tried, and what they tell, merged by the ids
abbrev pub gathered_bytes : List Part → List ℕ
gathered_bytes parts = number_bytes (asked_in parts) ++ all_bytes (merged_all id_of (map told_in parts))

-- 64 bits count the queries that were tried, and in no part an id is above the next
abbrev pub AreGatherable : List Part → Type 0
AreGatherable parts = (asked_in parts < 2 ^ 64) × NoneFalls id_of (map told_in parts)

-- the number of what stands against it
abbrev pub IsUngathered : List Part → ℕ → Type 0
IsUngathered parts code = ((code ≡ LIMIT) × (2 ^ 64 ≤ asked_in parts))
    ⊎ ((code ≡ ORDER) × (NoneFalls id_of (map told_in parts) → ⊥)) ⊎ (code ≡ NO_MEMORY)

-- ---- the whole

-- an alert as it is told, with its hits where they are shown
abbrev pub shown : Bool → Alert → List ℕ × List ℕ
shown shows alert = (alert.query, hits_bytes (if shows then alert.hits else []))

-- the parts tell what is due at the parts of the history
abbrev pub TellShards : Division → History → ArticleValue → Bool → List Part → Type 0
TellShards d h article shows parts = (k : ℕ) → k < d.parts
    → given (map told_in parts) k ≡ map (shown shows) (alerts (shard d k h) article)

-- what is gathered of the parts of a history is what is found at the whole
abbrev pub AreWhole : Type 0
AreWhole = (d : Division) (h : History) (article : ArticleValue) (shows : Bool) (parts : List Part)
    → length parts ≡ d.parts → TellShards d h article shows parts
    → gathered_bytes parts ≡ found_bytes shows (asked_in parts) (alerts h article)
