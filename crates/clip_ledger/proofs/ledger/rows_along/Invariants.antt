use Rattle.std.proofs.Common.{◌≡◌, map, take}
use Rattle.std.specs.Str.{IsUtf8}
use Rattle.clip_standing.specs.Alerts.{alert_value}
use Rattle.clip_listen.specs.Heard.{note_value}
use Rattle.clip_ledger.specs.Rows.{rows_of, row_value}
use Rattle.clip_ledger.specs.Steps.Walk.{from_query}
use Rattle.clip_ledger.proofs.ledger.rows_along.Given as goal

-- the rows of the first alerts, and the notes from the last of their queries on
abbrev pub invariant-loop-alert : goal.invariant-loop-alert
invariant-loop-alert l = record {
  rows : map row_value l.rows.items
      ≡ rows_of l.line (map alert_value (take l.alert-index l.alerts.alerts.items)) (map note_value l.notes);
  rest : map note_value l.rest ≡ from_query l.last (map note_value l.notes);
  text : IsUtf8 l.last;
}
