use Rattle.std.proofs.Common.{◌↔◌, length}
use Rattle.clip_gather.specs.Merged.{NeverFalls}
use Rattle.clip_gather.proofs.merging.never_falls.Given as goal

abbrev pub invariant-loop-first : goal.invariant-loop-first
invariant-loop-first g l = NeverFalls g.T.Keyed.key l.list ↔ NeverFalls g.T.Keyed.key l.rest

abbrev pub decreases-loop-first : goal.decreases-loop-first
decreases-loop-first g l = length l.rest
