use Rattle.std.proofs.Common.{◌≡◌, map, take}
use Rattle.std.specs.Arc.{arc_value}
use Rattle.clip_segment.specs.Segment.{heard_of, ids_of}
use Rattle.clip_segment.proofs.labels.Labels.of.Given as goal

abbrev pub invariant-loop-entry : goal.invariant-loop-entry
invariant-loop-entry l = record {
  ids : l.labels.ids ≡ ids_of (map arc_value (take l.entry-index l.entries));
  heard : l.labels.heard.items ≡ heard_of (map arc_value (take l.entry-index l.entries));
}
