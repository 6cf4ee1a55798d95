use Rattle.std.proofs.Common.{◌≡◌, drop, map}
use Rattle.std.specs.List.{list_any}
use Rattle.std.specs.Str.{bytes_eq}
use Rattle.clip_cause.proofs.shape.is_known.Given as goal

abbrev pub invariant-loop-known : goal.invariant-loop-known
invariant-loop-known l = list_any (bytes_eq l.name) (map (λ s. s.now) (drop l.known-index l.names))
    ≡ list_any (bytes_eq l.name) (map (λ s. s.now) l.names)
