use Rattle.std.proofs.Common.{◌≡◌, map, take}
use Rattle.clip_grammar.specs.Tree.{tree_of}
use Rattle.clip_segment.proofs.building.with_keys.Given as goal

abbrev pub invariant-loop-query : goal.invariant-loop-query
invariant-loop-query l = map (λ k. tree_of k.query.now) l.keyed.items ≡ map tree_of (take l.query-index l.queries)
