use Rattle.std.proofs.Common.{◌≡◌, map, take, vec_items}
use Rattle.std.specs.Arc.{arc_value}
use Rattle.clip_merge.proofs.Named.{flags_of}
use Rattle.clip_merge.proofs.merging.merge.Given as goal

abbrev pub invariant-loop-segment : goal.invariant-loop-segment
invariant-loop-segment g l =
    map vec_items l.kept.items ≡ flags_of l.live (map arc_value (take l.segment-index l.segments))
