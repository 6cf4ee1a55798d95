use Rattle.std.proofs.Common.{map, option_map, ap, sym, ◌∙◌}
use Rattle.std.proofs.lemmas.Str.{IsUtf8-nil}
use Rattle.clip_standing.specs.Alerts.{alert_value}
use Rattle.clip_listen.specs.Heard.{note_value}
use Rattle.clip_ledger.specs.Rows.{row_value, row_with, note_for}
use Rattle.clip_ledger.specs.Steps.Walk.{first_of}
use Rattle.clip_ledger.proofs.Walk.{found, from_start, next_row}
use Rattle.clip_ledger.proofs.ledger.rows_along.Goals as goal

pub loop-alert-init : goal.loop-alert-init
loop-alert-init c = record {
  rows = ap (map row_value) c.new-rows.ensures.items;
  rest = sym (from_start _);
  text =
      IsUtf8-nil;
}

pub next_notes-rest-requires-text-last : goal.next_notes-rest-requires-text-last
next_notes-rest-requires-text-last c κs = c.loop-alert.invariant.text

pub loop-alert-preserved : goal.loop-alert-preserved
loop-alert-preserved c =
    let notes = map note_value c.args.notes.now in
    let query = c.as_str-query.result.now in
    record {
      rows =
          next_row c.args.line notes c.args.alerts.now.alerts.items c.deref-alert-items.result.now
          c.loop-alert.alert-index c.alert-item.result c.loop-alert.rows.items _ c.in_ok-of.field-0
          c.deref-alert-items.ensures.value c.loop-alert-test.true c.alert-item.is c.loop-alert.invariant.rows
          c.in_ok-push.ensures.items
          (c.in_ok-of.ensures ∙ ap (row_with c.args.line (alert_value c.alert-item.result)) (c.first_text.ensures
          ∙ ap (option_map (λ n. n.text)) (ap (first_of query) c.next_notes-rest.ensures
          ∙ found query notes c.requires ∙ ap (note_for notes) (c.as_str-query.ensures.value ∙ c.query.ensures))));
      rest = c.next_notes-rest.ensures;
      text = c.as_str-query.utf8;
    }
