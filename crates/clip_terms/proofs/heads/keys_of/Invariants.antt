use Rattle.std.proofs.Common.{◌≡◌, map, take}
use Rattle.clip_extract.specs.Keys.{key_of}
use Rattle.clip_terms.proofs.heads.keys_of.Given as goal

abbrev pub invariant-loop-head : goal.invariant-loop-head
invariant-loop-head l = map key_of l.keys.items ≡ take l.head-index l.heads
