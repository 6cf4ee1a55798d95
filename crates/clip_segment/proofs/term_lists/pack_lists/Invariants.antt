use Rattle.std.proofs.Common.{◌≡◌, map, take, vec_items}
use Rattle.clip_segment.proofs.term_lists.pack_lists.Given as goal

abbrev pub invariant-loop-list : goal.invariant-loop-list
invariant-loop-list l = l.packed ≡ map vec_items (take l.list-index l.lists)
