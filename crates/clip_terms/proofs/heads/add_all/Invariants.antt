use Rattle.std.proofs.Common.{◌≡◌, ◌++◌, take}
use Rattle.clip_terms.proofs.heads.add_all.Given as goal

abbrev pub invariant-loop-head : goal.invariant-loop-head
invariant-loop-head l = l.all.items ≡ l.fn.all.items ++ take l.head-index l.heads
