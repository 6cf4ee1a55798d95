use Rattle.std.proofs.Common.{◌↔◌, length, map}
use Rattle.clip_gather.specs.Gather.{found_by, query_of}
use Rattle.clip_gather.specs.Merged.{NoneFalls}
use Rattle.clip_gather.proofs.parts.are_in_order.Given as goal

abbrev pub invariant-loop-part : goal.invariant-loop-part
invariant-loop-part l = NoneFalls query_of (map found_by l.parts) ↔ NoneFalls query_of (map found_by l.rest)

abbrev pub decreases-loop-part : goal.decreases-loop-part
decreases-loop-part l = length l.rest
