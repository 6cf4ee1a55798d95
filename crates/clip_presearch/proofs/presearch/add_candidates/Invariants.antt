use Rattle.std.proofs.Common.{◌≡◌, ◌++◌, map, filter, take}
use Rattle.clip_extract.specs.Covering.{article_keys}
use Rattle.clip_model.specs.History.{is_live}
use Rattle.clip_match.specs.Steps.Positions.{placed_with}
use Rattle.clip_presearch.proofs.presearch.add_candidates.Given as goal

abbrev pub invariant-loop-position : goal.invariant-loop-position
invariant-loop-position l =
    map (λ e. e.now) l.found.items ≡ map (λ e. e.now) l.fn.found.items
    ++ filter (λ r. is_live l.view.history r.seq)
    (map (λ e. e.1) (take l.position-index (placed_with (article_keys l.article.fields) l.segment)))
