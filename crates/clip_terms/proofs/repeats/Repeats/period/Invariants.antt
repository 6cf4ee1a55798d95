use Rattle.std.proofs.Common.{ℕ, ◌<◌, get_or}
use Rattle.clip_terms.specs.declared.repeats.Span.{Span}
use Rattle.clip_terms.specs.Steps.Repeats.{IsOutside}
use Rattle.clip_terms.proofs.repeats.Repeats.period.Given as goal

abbrev pub invariant-loop-span : goal.invariant-loop-span
invariant-loop-span l = (k : ℕ) (other : Span) → k < l.span-index → IsOutside (get_or l.self.spans k other) l.length
