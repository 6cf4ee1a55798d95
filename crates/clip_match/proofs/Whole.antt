-- What the candidates of a whole registry are.
use Rattle.std.proofs.Common.{◌<◌, get_or, filter, Contains}
use Rattle.std.proofs.lemmas.Bool.{and_from, and_parts}
use Rattle.std.proofs.lemmas.List.Elements.{All-filter, All-contains_itself, filter_passes}
use Rattle.std.proofs.lemmas.List.Kept.{AllPairs-filter}
use Rattle.clip_meaning.specs.Article.{ArticleValue}
use Rattle.clip_model.specs.History.{is_live}
use Rattle.clip_indexed.specs.Segment.{IsRising, all_entries}
use Rattle.clip_registry.proofs.Rising.{contains_filter}
use Rattle.clip_registry.specs.RegistryState.{RegistryState, IsWhole}
use Rattle.clip_extract.specs.Covering.{Covers}
use Rattle.clip_match.specs.Candidates.{is_candidate, candidates_of, MissesNone, AreRegistered}

-- no candidate is missed
pub misses_none : Covers → (state : RegistryState) (article : ArticleValue) → IsWhole state
    → MissesNone state article (candidates_of state article)
misses_none covers state article whole r stands held =
    let live = (whole.live_entries r).0 stands in
    contains_filter (is_candidate state.history article.fields) r (all_entries state.segments)
    (and_from (is_live state.history r.seq) _ live.1 (covers r.standing.tree article.fields held)) live.0

pub candidates_rise : (state : RegistryState) (article : ArticleValue) → IsWhole state
    → IsRising (candidates_of state article)
candidates_rise state article whole = record {
  rises = AllPairs-filter (λ e f. e.seq < f.seq) (is_candidate state.history article.fields)
      (all_entries state.segments) whole.rising.rises;
}

pub candidates_registered : (state : RegistryState) (article : ArticleValue) → IsWhole state
    → AreRegistered state (candidates_of state article)
candidates_registered state article whole k d inside =
    let p = is_candidate state.history article.fields in
    let entries = all_entries state.segments in
    let r = get_or (filter p entries) k d in
    (whole.live_entries r).1 (
      All-filter p (Contains entries) entries (All-contains_itself entries) k d inside,
      (and_parts (is_live state.history r.seq) _ (filter_passes p entries k d inside)).0,
    )
