use Rattle.std.proofs.Common.{◌≡◌, map, take}
use Rattle.std.specs.Arc.{arc_value}
use Rattle.clip_grammar.specs.Tree.{tree_of}
use Rattle.clip_segment.specs.Segment.{trees_of}
use Rattle.clip_segment.proofs.labelled_index.queries_of.Given as goal

abbrev pub invariant-loop-entry : goal.invariant-loop-entry
invariant-loop-entry l = map tree_of l.queries.items ≡ trees_of (map arc_value (take l.entry-index l.entries))
