use Rattle.std.proofs.Common.{◌≡◌, map}
use Rattle.serde_json.specs.View.{members_view}
use Rattle.clip_cause.specs.Shapes.{unknown}
use Rattle.clip_cause.proofs.shape.unknown.Given as goal

abbrev pub invariant-loop-key : goal.invariant-loop-key
invariant-loop-key l = unknown (map (λ s. s.now) l.names) (members_view l.key-iterator)
    ≡ unknown (map (λ s. s.now) l.names) (members_view l.members.entries)
