use Rattle.std.proofs.Common.{◌≡◌, ◌++◌, map, flat_map}
use Rattle.clip_extract.specs.Fronts.{fronts}
use Rattle.clip_extract.specs.Keys.{Front, key_of}
use Rattle.clip_extract.specs.Covering.{front_keys}
use Rattle.clip_presearch.proofs.keys.add_fronts.Given as goal

abbrev pub invariant-loop-word : goal.invariant-loop-word
invariant-loop-word l = map key_of l.keys.items ++ map (Front l.field.0) (flat_map fronts l.word-iterator)
    ≡ map key_of l.fn.keys.items ++ front_keys l.field
