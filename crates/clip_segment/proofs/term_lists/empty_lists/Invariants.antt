use Rattle.std.proofs.Common.{◌≡◌, [], map, replicate, vec_items}
use Rattle.clip_segment.proofs.term_lists.empty_lists.Given as goal

abbrev pub invariant-loop : goal.invariant-loop
invariant-loop l = map vec_items l.lists.items ≡ replicate l.counter []
