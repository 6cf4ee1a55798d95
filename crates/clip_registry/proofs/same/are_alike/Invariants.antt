use Rattle.std.proofs.Common.{◌≡◌, length}
use Rattle.clip_registry.proofs.same.are_alike.Given as goal

abbrev pub invariant-loop-place : goal.invariant-loop-place
invariant-loop-place g l = length l.a ≡ length l.b
