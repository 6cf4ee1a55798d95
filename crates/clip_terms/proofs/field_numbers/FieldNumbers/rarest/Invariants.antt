use Rattle.clip_terms.specs.Steps.FieldNumbers.{IsAnchor}
use Rattle.clip_terms.proofs.field_numbers.FieldNumbers.rarest.Given as goal

abbrev pub invariant-loop-place : goal.invariant-loop-place
invariant-loop-place l = IsAnchor l.self l.run l.rarest
