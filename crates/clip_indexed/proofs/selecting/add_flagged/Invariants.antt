use Rattle.std.proofs.Common.{◌≡◌, ◌++◌, length, map}
use Rattle.std.specs.Arc.{arc_value}
use Rattle.clip_indexed.specs.Selecting.{flagged}
use Rattle.clip_indexed.proofs.selecting.add_flagged.Given as goal

abbrev pub invariant-loop-flag : goal.invariant-loop-flag
invariant-loop-flag l =
    map arc_value l.kept.items ++ flagged l.flags (map arc_value l.entries)
    ≡ map arc_value l.fn.kept.items ++ flagged l.fn.flags (map arc_value l.fn.entries)

abbrev pub decreases-loop-flag : goal.decreases-loop-flag
decreases-loop-flag l = length l.flags
