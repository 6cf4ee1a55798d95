use Rattle.std.proofs.Common.{◌≡◌, map, take}
use Rattle.clip_standing.specs.Alerts.{alert_value}
use Rattle.clip_listen.specs.Heard.{told_all, notes_of, note_value}
use Rattle.clip_listen.proofs.listeners.deliver_to.Given as goal

-- the first alerts were told, and no other
abbrev pub invariant-loop-alert : goal.invariant-loop-alert
invariant-loop-alert g l =
    let hearers = g.A.Audience.hearers in
    let first = take l.alert-index (map alert_value l.alerts.alerts.items) in
    record {
      told : hearers l.audience ≡ told_all first (hearers l.fn.audience);
      notes : map note_value l.notes.items ≡ notes_of (hearers l.fn.audience) first;
    }
