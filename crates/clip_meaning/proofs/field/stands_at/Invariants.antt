use Rattle.std.proofs.Common.{◌≡◌, map, drop, length}
use Rattle.std.specs.Arc.{arc_str_bytes}
use Rattle.std.specs.List.{starts_with}
use Rattle.std.specs.Str.{bytes_eq}
use Rattle.clip_meaning.proofs.field.stands_at.Given as goal

abbrev pub invariant-loop-next : goal.invariant-loop-next
invariant-loop-next l = starts_with bytes_eq (drop l.position l.words) (map arc_str_bytes l.phrase)
    ≡ starts_with bytes_eq (drop l.fn.position l.words) (map arc_str_bytes l.fn.phrase)

abbrev pub decreases-loop-next : goal.decreases-loop-next
decreases-loop-next l = length l.phrase
