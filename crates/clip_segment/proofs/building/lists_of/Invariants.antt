use Rattle.std.proofs.Common.{◌≡◌, map, take}
use Rattle.clip_grammar.specs.Tree.{tree_of}
use Rattle.clip_segment.specs.Steps.Parts.{AreListsOf}
use Rattle.clip_segment.proofs.building.lists_of.Given as goal

abbrev pub invariant-loop-query : goal.invariant-loop-query
invariant-loop-query l = record {
  position : l.position ≡ l.query-index;
  lists : AreListsOf l.terms (map (λ k. tree_of k.query.now) (take l.query-index l.queries)) l.lists;
}
