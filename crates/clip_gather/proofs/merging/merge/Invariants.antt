use Rattle.std.proofs.Common.{◌≡◌, ◌++◌, ◌∷◌}
use Rattle.std.specs.VecDeque.{deque_len}
use Rattle.clip_gather.specs.Merged.{NeverFalls, merged_by}
use Rattle.clip_gather.proofs.merging.merge.Given as goal

abbrev pub invariant-loop-item : goal.invariant-loop-item
invariant-loop-item g l = record {
  all : l.found.items ++ merged_by g.T.Keyed.key l.first.items l.second.items
      ≡ merged_by g.T.Keyed.key l.fn.first.items l.fn.second.items;
  first : NeverFalls g.T.Keyed.key l.first.items;
  second : NeverFalls g.T.Keyed.key l.second.items;
}

abbrev pub decreases-loop-item : goal.decreases-loop-item
decreases-loop-item g l = deque_len l.first

abbrev pub invariant-loop-below : goal.invariant-loop-below
invariant-loop-below g l = record {
  all : l.found.items ++ merged_by g.T.Keyed.key (l.item ∷ l.first.items) l.second.items
      ≡ merged_by g.T.Keyed.key l.fn.first.items l.fn.second.items;
  second : NeverFalls g.T.Keyed.key l.second.items;
}

abbrev pub decreases-loop-below : goal.decreases-loop-below
decreases-loop-below g l = deque_len l.second
