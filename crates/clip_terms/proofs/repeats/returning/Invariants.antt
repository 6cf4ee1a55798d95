use Rattle.std.proofs.Common.{◌+◌, ◌-◌, ◌≤◌, length}
use Rattle.clip_terms.specs.Steps.Repeats.{Returns}
use Rattle.clip_terms.proofs.repeats.returning.Given as goal

abbrev pub invariant-loop-kept : goal.invariant-loop-kept
invariant-loop-kept l = record {
  more : l.fn.at.kept ≤ l.kept;
  within : l.start + l.kept ≤ length l.run;
  returns : Returns l.run l.start (l.start + l.kept);
}

abbrev pub decreases-loop-kept : goal.decreases-loop-kept
decreases-loop-kept l = length l.run - l.kept
