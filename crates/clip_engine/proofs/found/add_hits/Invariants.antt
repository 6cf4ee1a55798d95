use Rattle.std.proofs.Common.{◌≡◌, ◌++◌, length, map, take}
use Rattle.std.specs.Prelude.{flat_map}
use Rattle.clip_meaning.specs.Hits.{hit_value}
use Rattle.clip_engine.specs.Found.{number_bytes, hit_bytes}
use Rattle.clip_engine.proofs.found.add_hits.Given as goal

-- the count and the first hits were added
abbrev pub invariant-loop-hit : goal.invariant-loop-hit
invariant-loop-hit l = l.bytes.items
    ≡ l.fn.bytes.items ++ (number_bytes (length l.hits) ++ flat_map hit_bytes (map hit_value (take l.hit-index l.hits)))
