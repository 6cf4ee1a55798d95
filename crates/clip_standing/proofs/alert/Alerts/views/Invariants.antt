use Rattle.std.proofs.Common.{◌≡◌, map, take}
use Rattle.clip_standing.specs.Alerts.{alert_value}
use Rattle.clip_standing.proofs.alert.Alerts.views.Given as goal

abbrev pub invariant-loop-alert : goal.invariant-loop-alert
invariant-loop-alert l = l.views.items ≡ map alert_value (take l.alert-index l.alerts)
