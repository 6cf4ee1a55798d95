use Rattle.std.proofs.Common.{◌≡◌, ◌++◌, map, flat_map, take}
use Rattle.clip_extract.specs.Keys.{key_of}
use Rattle.clip_extract.specs.Covering.{field_keys}
use Rattle.clip_presearch.proofs.keys.add_field_words.Given as goal

abbrev pub invariant-loop-field : goal.invariant-loop-field
invariant-loop-field l =
    map key_of l.keys.items ≡ map key_of l.fn.keys.items ++ flat_map field_keys (take l.field-index l.fields)
