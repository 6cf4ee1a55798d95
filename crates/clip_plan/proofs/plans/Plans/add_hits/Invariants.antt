use Rattle.std.proofs.Common.{◌≡◌, ◌++◌, [], map, take}
use Rattle.std.specs.Prelude.{unwrap_or, slice_get, List}
use Rattle.std.specs.List.{flat_map}
use Rattle.clip_grammar.specs.Tree.{Tree}
use Rattle.clip_meaning.specs.Hits.{hit_value, hits_in}
use Rattle.clip_extract.specs.Keys.{KeyValue}
use Rattle.clip_terms.specs.Spots.{FieldValue, spots_among}
use Rattle.clip_plan.specs.Plan.{decoded, plan_of}
use Rattle.clip_plan.proofs.plans.Plans.add_hits.Given as goal

-- what was there, and then the hits in the fields so far
abbrev pub invariant-loop-of_field : goal.invariant-loop-of_field
invariant-loop-of_field l =
    (tree : Tree) (terms : List KeyValue) (fields : List FieldValue) → l.spots ≡ map (spots_among terms) fields
    → decoded terms (unwrap_or (slice_get l.self l.place) []) ≡ plan_of tree
    → map hit_value l.found.items ≡ map hit_value l.fn.found.items
    ++ flat_map (hits_in tree) (take l.of_field-index fields)
