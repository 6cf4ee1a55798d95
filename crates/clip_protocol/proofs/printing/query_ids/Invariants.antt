use Rattle.std.proofs.Common.{◌≡◌, map, take}
use Rattle.clip_standing.specs.Alerts.{alert_value}
use Rattle.clip_protocol.specs.Reply.{query_ids}
use Rattle.clip_protocol.proofs.printing.query_ids.Given as goal

abbrev pub invariant-loop-alert : goal.invariant-loop-alert
invariant-loop-alert l = map (λ id. id.now) l.ids.items ≡ query_ids (map alert_value (take l.alert-index l.alerts))
