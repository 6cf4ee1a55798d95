use Rattle.std.proofs.Common.{◌≡◌, ◌++◌, length, take, true}
use Rattle.std.specs.Prelude.{flat_map}
use Rattle.clip_engine.specs.Found.{number_bytes, alert_bytes}
use Rattle.clip_engine.proofs.found.add_alerts.Given as goal

-- the count and the first alerts were added
abbrev pub invariant-loop-alert : goal.invariant-loop-alert
invariant-loop-alert l = l.bytes.items
    ≡ l.fn.bytes.items
    ++ (number_bytes (length l.alerts) ++ flat_map (alert_bytes true) (take l.alert-index l.alerts))
