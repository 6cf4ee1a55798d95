use Rattle.std.proofs.Common.{◌≡◌, ◌++◌, drop}
use Rattle.clip_meaning.specs.Index.{numbered}
use Rattle.clip_meaning.proofs.index.postings_of.Given as goal

abbrev pub invariant-loop-position : goal.invariant-loop-position
invariant-loop-position l = l.postings.items ++ numbered l.position (drop l.position l.words) ≡ numbered 0 l.words
