use Rattle.std.proofs.Common.{◌≡◌, flat_map, map, take}
use Rattle.clip_model.specs.Alerts.{alerts}
use Rattle.clip_listen.specs.Heard.{note_value, notes_of, told_all}
use Rattle.embedding.proofs.morning.morning.Given as goal

-- the alerts of the first articles were told
abbrev pub invariant-loop-place : goal.invariant-loop-place
invariant-loop-place g l =
    let hearers = g.A.Audience.hearers in
    let due = flat_map (alerts l.view.history) (take l.place l.articles) in
    record {
      heard : hearers l.audience ≡ told_all due (hearers l.fn.audience);
      notes : map note_value l.notes.items ≡ notes_of (hearers l.fn.audience) due;
    }
