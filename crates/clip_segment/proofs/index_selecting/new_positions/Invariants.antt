-- The moves so far, with those to come.
use Rattle.std.proofs.Common.{◌≡◌, ◌+◌, ◌≤◌, ◌++◌, drop}
use Rattle.std.specs.List.{count_by}
use Rattle.clip_segment.specs.Steps.Parts.{new_positions}
use Rattle.clip_indexed.specs.declared.segment.TheConstants.{MOST_POSITIONS}
use Rattle.clip_segment.proofs.index_selecting.new_positions.Given as goal

abbrev pub invariant-loop-flag : goal.invariant-loop-flag
invariant-loop-flag l = record {
  few : l.next + count_by (λ flag. flag) (drop l.flag-index l.kept) ≤ MOST_POSITIONS;
  moves : l.moves.items ++ new_positions l.next (drop l.flag-index l.kept) ≡ new_positions l.first l.kept;
}
