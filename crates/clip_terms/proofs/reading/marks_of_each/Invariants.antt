use Rattle.clip_terms.proofs.EachOnce.{IsUpTo}
use Rattle.clip_terms.proofs.reading.marks_of_each.Given as goal

abbrev pub invariant-loop-place : goal.invariant-loop-place
invariant-loop-place l = IsUpTo l.fn.numbers.items l.numbers.items l.place l.left l.marks l.bound
