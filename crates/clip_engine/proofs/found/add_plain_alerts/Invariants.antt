use Rattle.std.proofs.Common.{◌≡◌, ◌++◌, length, map, take}
use Rattle.std.specs.Prelude.{flat_map}
use Rattle.clip_engine.specs.Found.{number_bytes, plain_alert_bytes}
use Rattle.clip_engine.proofs.found.add_plain_alerts.Given as goal

-- the count and the alerts of the first queries were added
abbrev pub invariant-loop-query : goal.invariant-loop-query
invariant-loop-query l = l.bytes.items
    ≡ l.fn.bytes.items
    ++ (number_bytes (length l.queries)
    ++ flat_map plain_alert_bytes (map (λ query. query.now) (take l.query-index l.queries)))
