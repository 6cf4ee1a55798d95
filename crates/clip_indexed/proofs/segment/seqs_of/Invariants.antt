use Rattle.std.proofs.Common.{◌≡◌, map, take}
use Rattle.std.specs.Arc.{arc_value}
use Rattle.clip_indexed.specs.Segment.{seqs_of}
use Rattle.clip_indexed.proofs.segment.seqs_of.Given as goal

abbrev pub invariant-loop-entry : goal.invariant-loop-entry
invariant-loop-entry l = l.seqs.items ≡ seqs_of (map arc_value (take l.entry-index l.entries))
