use Rattle.std.proofs.Common.{map}
use Rattle.std.specs.Arc.{arc_value}
use Rattle.tests.proofs.Rising.{IsFilled}
use Rattle.tests.proofs.making.segment_of.Given as goal

abbrev pub invariant-loop-seq : goal.invariant-loop-seq
invariant-loop-seq l = IsFilled l.seq (map arc_value l.entries.items)
