use Rattle.std.proofs.Common.{◌+◌, ◌++◌, [], map, ap, sym, ◌∙◌}
use Rattle.std.specs.List.{cons_option}
use Rattle.clip_standing.specs.Alerts.{alert_value}
use Rattle.clip_listen.specs.Heard.{note_value}
use Rattle.clip_listen.proofs.Hearing.{told_none, told_next, notes_next, heard_front, refused_front, element}
use Rattle.clip_listen.proofs.Parts.{on_err}
use Rattle.clip_listen.proofs.listeners.deliver_to.Goals as goal

pub loop-alert-init : goal.loop-alert-init
loop-alert-init g c = record { told = sym (told_none _); notes = ap (map note_value) c.new-notes.ensures.items }

pub returns-in_err-note-clause-err : goal.returns-in_err-note-clause-err
returns-in_err-note-clause-err g c =
    let it = element alert_value c.args.alerts.now.alerts.items c.deref-alert-items.result.now c.loop-alert.alert-index
    c.alert-item.result c.deref-alert-items.ensures.value c.loop-alert-test.true c.alert-item.is in
    on_err c.from_residual.result
    (refused_front _ c.loop-alert.alert-index (alert_value c.alert-item.result) _ _ _ it.0 it.1
    c.loop-alert.invariant.told c.in_err-note.ensures.err)

pub returns-in_err-keep-clause-err : goal.returns-in_err-keep-clause-err
returns-in_err-keep-clause-err g c =
    let it = element alert_value c.args.alerts.now.alerts.items c.deref-alert-items.result.now c.loop-alert.alert-index
    c.alert-item.result c.deref-alert-items.ensures.value c.loop-alert-test.true c.alert-item.is in
    on_err c.from_residual-in_err-keep.result (heard_front _ (c.loop-alert.alert-index + 1) _ _
    (c.in_ok-note.ensures.ok
    ∙ told_next _ c.loop-alert.alert-index (alert_value c.alert-item.result) _ _ it.0 it.1
    c.loop-alert.invariant.told))

pub loop-alert-preserved : goal.loop-alert-preserved
loop-alert-preserved g c =
    let it = element alert_value c.args.alerts.now.alerts.items c.deref-alert-items.result.now c.loop-alert.alert-index
    c.alert-item.result c.deref-alert-items.ensures.value c.loop-alert-test.true c.alert-item.is in
    record {
      told = c.in_ok-note.ensures.ok
          ∙ told_next _ c.loop-alert.alert-index (alert_value c.alert-item.result) _ _ it.0 it.1
          c.loop-alert.invariant.told;
      notes =
          c.in_ok-keep.ensures ∙ ap (λ n. map note_value c.loop-alert.notes.items ++ cons_option n [])
          c.in_ok-note.ensures.note
          ∙ notes_next _ c.loop-alert.alert-index (alert_value c.alert-item.result) _ _
          (map note_value c.loop-alert.notes.items) it.0 it.1 c.loop-alert.invariant.told
          c.loop-alert.invariant.notes;
    }
