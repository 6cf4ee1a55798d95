use Rattle.std.proofs.Common.{◌≡◌, map}
use Rattle.clip_extract.specs.Keys.{key_of}
use Rattle.clip_extract.proofs.sorting.bare_keys.Given as goal

abbrev pub invariant-loop-one : goal.invariant-loop-one
invariant-loop-one l = map key_of l.keys.items ≡ l.yielded
