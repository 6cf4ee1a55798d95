use Rattle.std.proofs.Common.{◌≡◌, drop, map}
use Rattle.clip_protocol.specs.Steps.Outline.{named_in}
use Rattle.clip_protocol.proofs.members.named.Given as goal

abbrev pub invariant-loop-name : goal.invariant-loop-name
invariant-loop-name g l = named_in (map (λ p. (p.0.now, p.1)) (drop l.name-index l.these)) l.word
    ≡ named_in (map (λ p. (p.0.now, p.1)) l.these) l.word
