use Rattle.std.proofs.Common.{◌≡◌, ℕ, ◌<◌, false}
use Rattle.clip_grammar.specs.Tree.{tree_of}
use Rattle.clip_near.specs.Near.{stand_close}
use Rattle.clip_near.specs.Steps.Ends.{IsLastEnd}
use Rattle.clip_near.proofs.place.is_followed.Given as goal

abbrev pub invariant-loop-position : goal.invariant-loop-position
invariant-loop-position l = record {
  last : IsLastEnd (tree_of l.first) l.words l.position l.end;
  none : (i j : ℕ) → j < l.position
      → stand_close l.between (tree_of l.first) (tree_of l.second) l.words i j ≡ false;
}
