use Rattle.std.proofs.Common.{◌≡◌, ◌++◌, map, length}
use Rattle.std.specs.Arc.{arc_str_bytes}
use Rattle.clip_extract.specs.Fronts.{fronts}
use Rattle.clip_extract.specs.Keys.{Front, key_of}
use Rattle.clip_presearch.proofs.keys.add_word_fronts.Given as goal

abbrev pub invariant-loop-front : goal.invariant-loop-front
invariant-loop-front l = map key_of l.keys.items ++ map (Front (arc_str_bytes l.name)) l.fronts
    ≡ map key_of l.fn.keys.items ++ map (Front (arc_str_bytes l.name)) (fronts l.word)

abbrev pub decreases-loop-front : goal.decreases-loop-front
decreases-loop-front l = length l.fronts
