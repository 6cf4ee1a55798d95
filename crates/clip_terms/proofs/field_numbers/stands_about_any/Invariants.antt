use Rattle.std.proofs.Common.{◌≡◌, drop}
use Rattle.std.specs.List.{list_any}
use Rattle.clip_terms.specs.Steps.FieldNumbers.{begins_before}
use Rattle.clip_terms.proofs.field_numbers.stands_about_any.Given as goal

abbrev pub invariant-loop-spot : goal.invariant-loop-spot
invariant-loop-spot l = list_any (begins_before l.run l.numbers l.anchor.place) (drop l.spot-index l.anchor.spots.now)
    ≡ list_any (begins_before l.run l.numbers l.anchor.place) l.anchor.spots.now
