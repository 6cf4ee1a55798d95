use Rattle.std.proofs.Common.{map}
use Rattle.std.specs.Arc.{arc_value}
use Rattle.clip_merge.proofs.Rises.{Seen}
use Rattle.clip_merge.proofs.levels.oldest_rise.Given as goal

abbrev pub invariant-loop-at : goal.invariant-loop-at
invariant-loop-at g l = Seen (map arc_value l.segments) l.at l.highest l.oldest
