use Rattle.std.proofs.Common.{◌≡◌, ◌++◌, ℕ, Bool, filter, map, take}
use Rattle.clip_registry.specs.Steps.LiveFlags.{flags_of}
use Rattle.clip_registry.proofs.live_flags.add_live.Given as goal

abbrev pub invariant-loop-place : goal.invariant-loop-place
invariant-loop-place g l = (is : ℕ → Bool) → l.live ≡ flags_of is l.segment
    → map (λ e. e.now) l.found.items
    ≡ map (λ e. e.now) l.fn.found.items ++ filter (λ r. is r.seq) (take l.place l.segment)
