use Rattle.std.proofs.Common.{◌≡◌, length}
use Rattle.clip_terms.specs.Steps.Runs.{begins_with}
use Rattle.clip_terms.proofs.matching.starts_with.Given as goal

abbrev pub invariant-loop-next : goal.invariant-loop-next
invariant-loop-next l = begins_with l.run l.numbers ≡ begins_with l.fn.run l.fn.numbers

abbrev pub decreases-loop-next : goal.decreases-loop-next
decreases-loop-next l = length l.run
