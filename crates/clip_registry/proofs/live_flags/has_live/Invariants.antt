use Rattle.std.proofs.Common.{map, take}
use Rattle.std.specs.Arc.{arc_value}
use Rattle.std.specs.List.{Contains}
use Rattle.clip_indexed.specs.Segment.{all_entries, seqs_of}
use Rattle.clip_registry.proofs.live_flags.has_live.Given as goal

abbrev pub invariant-loop-place : goal.invariant-loop-place
invariant-loop-place g l = Contains (seqs_of (all_entries (map arc_value (take l.place l.segments)))) l.seq → ⊥
