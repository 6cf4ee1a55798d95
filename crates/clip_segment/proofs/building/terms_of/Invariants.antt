use Rattle.std.proofs.Common.{◌≡◌, map, take, flat_map}
use Rattle.clip_grammar.specs.Tree.{tree_of}
use Rattle.clip_extract.specs.Keys.{key_of}
use Rattle.clip_segment.specs.Steps.Needed.{needed_of}
use Rattle.clip_segment.proofs.building.terms_of.Given as goal

abbrev pub invariant-loop-query : goal.invariant-loop-query
invariant-loop-query l =
    map key_of l.all.items ≡ flat_map needed_of (map (λ k. tree_of k.query.now) (take l.query-index l.queries))
