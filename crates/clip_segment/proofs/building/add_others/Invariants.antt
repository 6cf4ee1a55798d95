use Rattle.std.proofs.Common.{◌≡◌, ◌++◌, map, take}
use Rattle.clip_extract.specs.Keys.{key_of}
use Rattle.clip_segment.specs.Steps.Needed.{others}
use Rattle.clip_segment.proofs.building.add_others.Given as goal

abbrev pub invariant-loop-key : goal.invariant-loop-key
invariant-loop-key l =
    map key_of l.all.items ≡ map key_of l.fn.all.items ++ others (map key_of (take l.key-index l.keys))
