use Rattle.std.proofs.Common.{◌≤◌, ◌-◌, length}
use Rattle.clip_cause.proofs.offset.good_bytes.Given as goal

abbrev pub invariant-halving : goal.invariant-halving
invariant-halving l = record { ordered : l.good ≤ l.bad; within : l.bad ≤ length l.bytes }

abbrev pub decreases-halving : goal.decreases-halving
decreases-halving l = l.bad - l.good
