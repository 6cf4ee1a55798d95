use Rattle.std.proofs.Common.{rules}
use Rattle.clip_run.proofs.finding.views_to_show.Goals as goal

pub returns-in_ok-views-in-WithHits : goal.returns-in_ok-views-in-WithHits
returns-in_ok-views-in-WithHits c = search rules
