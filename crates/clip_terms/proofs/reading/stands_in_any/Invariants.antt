use Rattle.std.proofs.Common.{◌≡◌, drop}
use Rattle.std.specs.List.{list_any}
use Rattle.clip_terms.specs.Steps.Runs.{stands_among}
use Rattle.clip_terms.proofs.reading.stands_in_any.Given as goal

abbrev pub invariant-loop-numbers : goal.invariant-loop-numbers
invariant-loop-numbers l = list_any (stands_among l.run) (drop l.numbers-index l.fields)
    ≡ list_any (stands_among l.run) l.fields
