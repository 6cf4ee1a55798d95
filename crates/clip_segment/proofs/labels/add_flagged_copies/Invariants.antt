use Rattle.std.proofs.Common.{◌≡◌, ◌++◌, length}
use Rattle.clip_indexed.specs.Selecting.{flagged}
use Rattle.clip_segment.proofs.labels.add_flagged_copies.Given as goal

abbrev pub invariant-loop-flag : goal.invariant-loop-flag
invariant-loop-flag l = l.kept.items ++ flagged l.flags l.items ≡ l.fn.kept.items ++ flagged l.fn.flags l.fn.items

abbrev pub decreases-loop-flag : goal.decreases-loop-flag
decreases-loop-flag l = length l.flags
