use Rattle.std.proofs.Common.{map, take}
use Rattle.std.specs.Arc.{arc_value}
use Rattle.clip_indexed.specs.Selecting.{AreIndexesOf}
use Rattle.clip_indexed.proofs.selecting.indexes_of.Given as goal

abbrev pub invariant-loop-segment : goal.invariant-loop-segment
invariant-loop-segment g l =
    AreIndexesOf g.I.Index.is_of (map arc_value (take l.segment-index l.segments)) (map (λ i. i.now) l.indexes.items)
