use Rattle.std.proofs.Common.{◌≡◌, replicate, true}
use Rattle.clip_registry.proofs.live_flags.all_set.Given as goal

abbrev pub invariant-loop : goal.invariant-loop
invariant-loop l = l.flags ≡ replicate l.counter true
