use Rattle.std.proofs.Common.{rules}
use Rattle.clip_run.proofs.finding.wants_alerts.Goals as goal

pub returns-then-settings-clause-unkept : goal.returns-then-settings-clause-unkept
returns-then-settings-clause-unkept c = search rules
