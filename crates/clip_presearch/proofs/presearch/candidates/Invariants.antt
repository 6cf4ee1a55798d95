use Rattle.std.proofs.Common.{◌≡◌, ◌++◌, map, drop}
use Rattle.std.specs.Arc.{arc_value}
use Rattle.clip_extract.specs.Covering.{article_keys}
use Rattle.clip_indexed.specs.Segment.{all_entries}
use Rattle.clip_match.specs.Steps.Positions.{live_with}
use Rattle.clip_presearch.proofs.presearch.candidates.Given as goal

abbrev pub invariant-loop-segment : goal.invariant-loop-segment
invariant-loop-segment l =
    map (λ e. e.now) l.found.items
    ++ live_with l.view.history (article_keys l.article.fields)
    (all_entries (map arc_value (drop l.segment-index l.segment-items)))
    ≡ live_with l.view.history (article_keys l.article.fields) (all_entries (map arc_value l.segment-items))
