use Rattle.std.proofs.Common.{◌≡◌, ◌++◌, map, drop}
use Rattle.std.specs.List.{flat_map}
use Rattle.clip_grammar.specs.Tree.{tree_of}
use Rattle.clip_meaning.specs.Hits.{hit_value, hits_in}
use Rattle.clip_meaning.proofs.hit.hits.Given as goal

abbrev pub invariant-loop-field : goal.invariant-loop-field
invariant-loop-field l =
    map hit_value l.found.items ++ flat_map (hits_in (tree_of l.query)) (drop l.field-index l.field-items)
    ≡ flat_map (hits_in (tree_of l.query)) l.field-items
