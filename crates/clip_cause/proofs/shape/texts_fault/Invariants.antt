use Rattle.std.proofs.Common.{◌≡◌, drop, map}
use Rattle.serde_json.specs.View.{view}
use Rattle.clip_cause.specs.Shapes.{texts_fault}
use Rattle.clip_cause.proofs.shape.texts_fault.Given as goal

abbrev pub invariant-loop-name : goal.invariant-loop-name
invariant-loop-name l = texts_fault (map (λ s. s.now) (drop l.name-index l.names)) (view l.value)
    ≡ texts_fault (map (λ s. s.now) l.names) (view l.value)
