use Rattle.std.proofs.Common.{◌≡◌, map, length}
use Rattle.clip_listen.specs.Heard.{note_value}
use Rattle.clip_ledger.specs.Steps.Walk.{from_query}
use Rattle.clip_ledger.proofs.said.skip_to.Given as goal

-- the notes are among those that are left
abbrev pub invariant-loop-note : goal.invariant-loop-note
invariant-loop-note l = from_query l.query (map note_value l.rest) ≡ from_query l.query (map note_value l.notes)

abbrev pub decreases-loop-note : goal.decreases-loop-note
decreases-loop-note l = length l.rest
