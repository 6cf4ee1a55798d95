use Rattle.std.proofs.Common.{◌≡◌, ◌++◌, length, map, take}
use Rattle.std.specs.Prelude.{flat_map}
use Rattle.clip_engine.specs.Found.{number_bytes}
use Rattle.clip_engine.specs.Gathered.{told_bytes, told_of}
use Rattle.clip_engine.proofs.parts.bytes_of_told.Given as goal

-- both counts and the first of what is told were added
abbrev pub invariant-loop-told : goal.invariant-loop-told
invariant-loop-told l = l.bytes.items
    ≡ number_bytes l.asked
    ++ (number_bytes (length l.all) ++ flat_map told_bytes (map told_of (take l.told-index l.all)))
