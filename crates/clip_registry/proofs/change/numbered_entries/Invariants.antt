use Rattle.std.proofs.Common.{◌≡◌, ◌+◌, ◌++◌, map, drop}
use Rattle.std.specs.Arc.{arc_value}
use Rattle.clip_registry.specs.RegistryState.{numbered}
use Rattle.clip_registry.proofs.change.numbered_entries.Given as goal

abbrev pub invariant-loop-standing : goal.invariant-loop-standing
invariant-loop-standing l =
    (l.seq ≡ l.listed + l.standing-index)
    × (map arc_value l.entries.items ++ numbered l.seq (map arc_value (drop l.standing-index l.standings))
    ≡ numbered l.listed (map arc_value l.standings))
