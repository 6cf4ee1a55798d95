use Rattle.std.proofs.Common.{◌≡◌, ℕ, ◌<◌, ◌≤◌, Bool, [], length, map, get_or}
use Rattle.std.specs.Arc.{arc_value}
use Rattle.clip_registry.specs.Steps.LiveFlags.{flags_by, flags_of, without_all}
use Rattle.clip_registry.proofs.live_flags.clear_each.Given as goal

abbrev pub invariant-loop-place : goal.invariant-loop-place
invariant-loop-place g l = record {
  long : length l.live.items ≡ length l.fn.live.items;
  done : (is : ℕ → Bool) → l.fn.live.items ≡ flags_by is (map arc_value l.segments)
      → (k : ℕ) → k < l.place → get_or l.live.items k []
      ≡ flags_of (without_all l.seqs is) (get_or (map arc_value l.segments) k []);
  rest : (k : ℕ) → l.place ≤ k → get_or l.live.items k [] ≡ get_or l.fn.live.items k [];
}
