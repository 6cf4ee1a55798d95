use Rattle.std.proofs.Common.{◌≡◌, ◌++◌, map}
use Rattle.clip_extract.specs.Keys.{Word, key_of}
use Rattle.clip_extract.specs.Covering.{field_keys}
use Rattle.clip_presearch.proofs.keys.add_words.Given as goal

abbrev pub invariant-loop-word : goal.invariant-loop-word
invariant-loop-word l = map key_of l.keys.items ++ map (Word l.field.0) l.word-iterator
    ≡ map key_of l.fn.keys.items ++ field_keys l.field
