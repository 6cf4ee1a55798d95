use Rattle.std.proofs.Common.{◌≡◌, map, drop}
use Rattle.std.specs.Arc.{arc_str_bytes}
use Rattle.std.specs.List.{list_any}
use Rattle.clip_meaning.specs.Steps.Searches.{stands_at}
use Rattle.clip_meaning.proofs.field.stands_at_any.Given as goal

abbrev pub invariant-loop-occurrence : goal.invariant-loop-occurrence
invariant-loop-occurrence l =
    list_any (λ o. stands_at l.words (map arc_str_bytes l.phrase) o.position) (drop l.occurrence-index l.found)
    ≡ list_any (λ o. stands_at l.words (map arc_str_bytes l.phrase) o.position) l.found
