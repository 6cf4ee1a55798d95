use Rattle.std.proofs.Common.{◌≡◌, ◌++◌, map, take}
use Rattle.clip_protocol.specs.Found.{found_value}
use Rattle.clip_listen.specs.Heard.{told_all, notes_of, note_value}
use Rattle.clip_front.specs.Outcome.{kept_rows}
use Rattle.clip_front.specs.Steps.Found.{told_in, rows_in}
use Rattle.clip_front.proofs.delivery.deliver_all.Given as goal

-- the alerts of the first articles were delivered and posted
abbrev pub invariant-loop-one : goal.invariant-loop-one
invariant-loop-one g l =
    let hearers = g.A.Audience.hearers in
    let first = take l.one-index (map found_value l.found) in
    record {
      heard : hearers l.audience ≡ told_all (told_in first) (hearers l.fn.audience);
      notes : map note_value l.notes.items ≡ notes_of (hearers l.fn.audience) (told_in first);
      rows : l.books.ledger ≡ l.fn.books.ledger
          ++ kept_rows l.fn.books.settings.keeps_rows (rows_in (hearers l.fn.audience) l.line first);
      settings : l.books.settings ≡ l.fn.books.settings;
    }
