use Rattle.std.proofs.Common.{◌≡◌, take}
use Rattle.clip_registry.proofs.live_flags.list_flags.Given as goal

abbrev pub invariant-loop-place : goal.invariant-loop-place
invariant-loop-place l = l.list.items ≡ take l.place l.flags
