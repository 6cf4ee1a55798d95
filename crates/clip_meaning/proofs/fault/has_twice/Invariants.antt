use Rattle.std.proofs.Common.{◌≡◌, length}
use Rattle.clip_meaning.specs.Article.{has_twice, names, pairs_of}
use Rattle.clip_meaning.proofs.fault.has_twice.Given as goal

abbrev pub invariant-loop-first : goal.invariant-loop-first
invariant-loop-first l = has_twice (names (pairs_of l.rest)) ≡ has_twice (names (pairs_of l.fields))

abbrev pub decreases-loop-first : goal.decreases-loop-first
decreases-loop-first l = length l.rest
