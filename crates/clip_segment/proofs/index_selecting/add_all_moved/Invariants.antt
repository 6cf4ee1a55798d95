use Rattle.std.proofs.Common.{◌≡◌, ◌++◌, take}
use Rattle.clip_segment.specs.Steps.Parts.{moved}
use Rattle.clip_segment.proofs.index_selecting.add_all_moved.Given as goal

abbrev pub invariant-loop-position : goal.invariant-loop-position
invariant-loop-position l = l.list.items ≡ l.fn.list.items ++ moved l.moves (take l.position-index l.old)
