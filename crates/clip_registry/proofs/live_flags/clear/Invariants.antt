use Rattle.std.proofs.Common.{◌≡◌, ℕ, Bool, length, take}
use Rattle.clip_registry.specs.Steps.LiveFlags.{flags_of, without_all}
use Rattle.clip_registry.proofs.live_flags.clear.Given as goal

abbrev pub invariant-loop-seq : goal.invariant-loop-seq
invariant-loop-seq g l = record {
  long : length l.flags ≡ length l.fn.flags;
  done : (is : ℕ → Bool) → l.fn.flags ≡ flags_of is l.segment
      → l.flags ≡ flags_of (without_all (take l.seq-index l.seqs) is) l.segment;
}
