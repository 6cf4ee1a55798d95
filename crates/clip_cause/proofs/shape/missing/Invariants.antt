use Rattle.std.proofs.Common.{◌≡◌, drop, map}
use Rattle.serde_json.specs.View.{view}
use Rattle.clip_cause.specs.Shapes.{missing}
use Rattle.clip_cause.proofs.shape.missing.Given as goal

abbrev pub invariant-loop-name : goal.invariant-loop-name
invariant-loop-name l = missing (map (λ s. s.now) (drop l.name-index l.names)) (view l.value)
    ≡ missing (map (λ s. s.now) l.names) (view l.value)
