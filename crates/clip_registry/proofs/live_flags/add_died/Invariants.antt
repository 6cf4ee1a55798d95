use Rattle.std.proofs.Common.{◌≡◌, ℕ, ◌≤◌, ◌-◌, ◌++◌, Bool, length, take}
use Rattle.clip_indexed.specs.Segment.{seqs_of}
use Rattle.clip_registry.specs.Steps.LiveFlags.{died, flags_of}
use Rattle.clip_registry.proofs.live_flags.add_died.Given as goal

abbrev pub invariant-loop-place : goal.invariant-loop-place
invariant-loop-place g l = record {
  within : l.from ≤ length l.source;
  done : (is was : ℕ → Bool) → l.now ≡ flags_of is l.source → l.begun ≡ flags_of was l.source
      → l.seqs.items ≡ l.fn.seqs.items ++ seqs_of (died is was (take l.from l.source));
}

abbrev pub decreases-loop-place : goal.decreases-loop-place
decreases-loop-place g l = length l.source - l.from
