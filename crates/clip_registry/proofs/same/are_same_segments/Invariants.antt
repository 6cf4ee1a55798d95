use Rattle.std.proofs.Common.{◌≡◌, map, take}
use Rattle.std.specs.Arc.{arc_value}
use Rattle.clip_registry.proofs.same.are_same_segments.Given as goal

abbrev pub invariant-loop-place : goal.invariant-loop-place
invariant-loop-place g l = map arc_value (take l.place l.a) ≡ map arc_value (take l.place l.b)
