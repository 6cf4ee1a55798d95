use Rattle.std.proofs.Common.{◌≡◌, take, replicate, true}
use Rattle.clip_registry.proofs.live_flags.are_all_set.Given as goal

abbrev pub invariant-loop-place : goal.invariant-loop-place
invariant-loop-place l = take l.place l.flags ≡ replicate l.place true
