use Rattle.std.proofs.Common.{◌≡◌, length}
use Rattle.clip_listen.specs.Heard.{names_of, distinct}
use Rattle.clip_listen.proofs.places.repeats.Given as goal

-- whether the names are distinct is up to those that are left
abbrev pub invariant-loop-part : goal.invariant-loop-part
invariant-loop-part g l = distinct (names_of l.rest) ≡ distinct (names_of l.parts)

abbrev pub decreases-loop-part : goal.decreases-loop-part
decreases-loop-part g l = length l.rest
