use Rattle.std.proofs.Common.{◌≡◌, map, length}
use Rattle.clip_listen.specs.Heard.{note_value}
use Rattle.clip_ledger.specs.Steps.Walk.{rise}
use Rattle.clip_ledger.proofs.said.queries_rise.Given as goal

-- whether the queries rise is up to those that are left
abbrev pub invariant-loop-note : goal.invariant-loop-note
invariant-loop-note l = rise (map note_value l.rest) ≡ rise (map note_value l.notes)

abbrev pub decreases-loop-note : goal.decreases-loop-note
decreases-loop-note l = length l.rest
