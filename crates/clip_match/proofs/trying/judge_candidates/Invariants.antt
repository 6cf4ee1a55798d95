use Rattle.std.proofs.Common.{◌≡◌, ◌+◌, ◌≤◌, ◌++◌, All, length, map, filter, drop}
use Rattle.std.specs.List.{list_any}
use Rattle.std.specs.Arc.{arc_value}
use Rattle.clip_extract.specs.Covering.{article_keys}
use Rattle.clip_meaning.specs.Hits.{hit_value}
use Rattle.clip_meaning.specs.Meaning.{holds}
use Rattle.clip_indexed.specs.Segment.{all_entries}
use Rattle.clip_match.specs.Candidates.{under_keys}
use Rattle.clip_match.specs.Steps.Held.{HasItsHits}
use Rattle.clip_match.specs.Steps.Positions.{has_listener, live_with}
use Rattle.clip_match.proofs.trying.judge_candidates.Given as goal

abbrev pub invariant-loop-place : goal.invariant-loop-place
invariant-loop-place l = record {
  asked : l.judged.asked + length (live_with l.view.history (article_keys l.article.fields)
      (all_entries (map arc_value (drop l.place l.segments))))
      ≡ length (live_with l.view.history (article_keys l.article.fields) (all_entries (map arc_value l.segments)));
  held : map (λ h. h.registered.now) l.judged.entries.held.items
      ++ filter (λ r. holds r.standing.tree l.article.fields) (live_with l.view.history
      (article_keys l.article.fields) (all_entries (map arc_value (drop l.place l.segments))))
      ≡ filter (λ r. holds r.standing.tree l.article.fields) (live_with l.view.history
      (article_keys l.article.fields) (all_entries (map arc_value l.segments)));
  hits : All (HasItsHits l.hits l.article (map hit_value l.judged.entries.all_hits.items)) l.judged.entries.held.items;
  most : l.room.tallies ≤ l.judged.asked;
  least : length l.judged.entries.held.items ≤ l.room.tallies;
  read : l.room.read + under_keys (article_keys l.article.fields)
      (all_entries (map arc_value (drop l.place l.segments)))
      ≡ under_keys (article_keys l.article.fields) (all_entries (map arc_value l.segments));
  heard : l.judged.is_heard ≡ list_any has_listener (map (λ h. h.registered.now) l.judged.entries.held.items);
}
