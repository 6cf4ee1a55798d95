use Rattle.std.proofs.Common.{◌≡◌, map, take}
use Rattle.clip_match.specs.Alerts.{alerts_due}
use Rattle.clip_standing.specs.Alerts.{alerts_value}
use Rattle.clip_match.proofs.matching.match_batch.Given as goal

abbrev pub invariant-loop-article : goal.invariant-loop-article
invariant-loop-article l = map alerts_value l.found.items ≡ map (alerts_due l.view) (take l.article-index l.articles)
