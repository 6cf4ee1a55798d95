use Rattle.std.proofs.Common.{◌≡◌, map, take}
use Rattle.clip_standing.specs.Alerts.{alert_value}
use Rattle.clip_listen.specs.Heard.{note_value}
use Rattle.clip_ledger.specs.Rows.{rows_of, row_value}
use Rattle.clip_ledger.proofs.ledger.rows_by_search.Given as goal

-- the rows of the first alerts
abbrev pub invariant-loop-alert : goal.invariant-loop-alert
invariant-loop-alert l =
    map row_value l.rows.items
    ≡ rows_of l.line (map alert_value (take l.alert-index l.alerts.alerts.items)) (map note_value l.notes)
