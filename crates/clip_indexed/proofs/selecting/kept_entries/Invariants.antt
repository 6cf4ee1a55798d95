use Rattle.std.proofs.Common.{◌≡◌, ◌++◌, length, map, vec_items}
use Rattle.std.specs.Arc.{arc_value}
use Rattle.clip_indexed.specs.Selecting.{kept_of}
use Rattle.clip_indexed.proofs.selecting.kept_entries.Given as goal

abbrev pub invariant-loop-segment : goal.invariant-loop-segment
invariant-loop-segment g l =
    map arc_value l.entries.items ++ kept_of (map arc_value l.segments) (map vec_items l.kept)
    ≡ kept_of (map arc_value l.fn.segments) (map vec_items l.fn.kept)

abbrev pub decreases-loop-segment : goal.decreases-loop-segment
decreases-loop-segment g l = length l.segments
