-- The entries that are tried on an article.
use Rattle.std.specs.Prelude.{◌≡◌, ℕ, ◌+◌, Bool, true, ◌&&◌, List, filter, Contains, All, Some}
use Rattle.std.specs.FinMap as finite
use Rattle.clip_meaning.specs.Article.{ArticleValue, Fields}
use Rattle.clip_meaning.specs.Meaning.{holds}
use Rattle.clip_model.specs.History.{History, Registered, replay, is_live}
use Rattle.clip_extract.specs.Keys.{KeyValue, share}
use Rattle.clip_extract.specs.Extraction.{query_keys, second_keys}
use Rattle.clip_extract.specs.Covering.{article_keys}
use Rattle.clip_registry.specs.RegistryState.{RegistryState}
use Rattle.clip_segment.specs.Index.{positions_under}
use Rattle.clip_indexed.specs.Segment.{all_entries}
use Rattle.clip_segment.specs.Segment.{trees_of}

-- an entry that is live, and whose query has a key in common with the article
abbrev pub is_candidate : History → Fields → Registered → Bool
is_candidate history fields r = is_live history r.seq && share (query_keys r.standing.tree) (article_keys fields)

-- of all segments' entries, in order
abbrev pub candidates_of : RegistryState → ArticleValue → List Registered
candidates_of state article = filter (is_candidate state.history article.fields) (all_entries state.segments)

-- how many entries' queries have each of these keys as a key, and how many have it as a second key, all together
abbrev pub under_keys : List KeyValue → List Registered → ℕ
under_keys keys entries =
    positions_under query_keys keys (trees_of entries) + positions_under second_keys keys (trees_of entries)

-- how many positions stand under the keys of the article in all segments
abbrev pub positions_of : RegistryState → ArticleValue → ℕ
positions_of state article = under_keys (article_keys article.fields) (all_entries state.segments)

-- each registered query that holds of the article is among the entries
abbrev pub MissesNone : RegistryState → ArticleValue → List Registered → Type 0
MissesNone state article found =
    (r : Registered) → finite.get (replay state.history) r.standing.id ≡ Some r
    → holds r.standing.tree article.fields ≡ true → Contains found r

-- each is a registered query, as it is registered
abbrev pub AreRegistered : RegistryState → List Registered → Type 0
AreRegistered state found = All (λ r. finite.get (replay state.history) r.standing.id ≡ Some r) found
