use Rattle.std.proofs.Common.{◌≡◌, map, drop}
use Rattle.std.specs.Arc.{arc_str_bytes}
use Rattle.clip_listen.specs.Heard.{note_value}
use Rattle.clip_ledger.specs.Rows.{note_for}
use Rattle.clip_ledger.proofs.said.text_for.Given as goal

-- the first note is among those that are left
abbrev pub invariant-loop-note : goal.invariant-loop-note
invariant-loop-note l = note_for (map note_value (drop l.note-index l.notes)) (arc_str_bytes l.query)
    ≡ note_for (map note_value l.fn.notes) (arc_str_bytes l.fn.query)
