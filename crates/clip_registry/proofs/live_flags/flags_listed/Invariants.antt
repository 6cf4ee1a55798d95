use Rattle.std.proofs.Common.{◌≡◌, map, take, vec_items}
use Rattle.clip_registry.proofs.live_flags.flags_listed.Given as goal

abbrev pub invariant-loop-flags : goal.invariant-loop-flags
invariant-loop-flags l = map vec_items l.lists.items ≡ take l.flags-index l.live
