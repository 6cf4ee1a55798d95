use Rattle.std.proofs.Common.{◌≡◌, ◌++◌, map}
use Rattle.std.specs.Arc.{arc_str_bytes}
use Rattle.clip_meaning.specs.Hits.{hit_value}
use Rattle.clip_meaning.specs.Steps.Marks.{hit_at, raised}
use Rattle.clip_meaning.proofs.flags.add_raised.Given as goal

abbrev pub invariant-loop-position : goal.invariant-loop-position
invariant-loop-position l =
    map hit_value l.found.items ++ map (hit_at (arc_str_bytes l.name)) l.position-iterator
    ≡ map hit_value l.fn.found.items ++ raised (arc_str_bytes l.name) l.flags
