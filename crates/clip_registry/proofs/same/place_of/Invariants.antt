use Rattle.std.proofs.Common.{◌<◌, ℕ, map}
use Rattle.std.specs.Arc.{arc_value}
use Rattle.clip_registry.specs.Merging.{StandsAt}
use Rattle.clip_registry.proofs.same.place_of.Given as goal

abbrev pub invariant-loop-first : goal.invariant-loop-first
invariant-loop-first g l =
    (first : ℕ) → first < l.first → StandsAt (map arc_value l.segments) (map arc_value l.sources) first → ⊥
