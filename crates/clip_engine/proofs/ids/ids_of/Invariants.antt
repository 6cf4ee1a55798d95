use Rattle.std.proofs.Common.{◌≡◌, ◌++◌, length, map, take}
use Rattle.std.specs.Prelude.{flat_map}
use Rattle.clip_engine.specs.Found.{number_bytes, text_bytes}
use Rattle.clip_engine.proofs.ids.ids_of.Given as goal

-- the count and the first ids were added
abbrev pub invariant-loop-entry : goal.invariant-loop-entry
invariant-loop-entry l =
    l.bytes.items ≡ number_bytes (length l.entries)
    ++ flat_map text_bytes (map (λ e. e.now.standing.id) (take l.entry-index l.entries))
