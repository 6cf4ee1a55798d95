use Rattle.std.proofs.Common.{◌≡◌, ◌++◌, drop}
use Rattle.clip_terms.specs.Steps.FieldNumbers.{spots_of}
use Rattle.clip_terms.proofs.field_numbers.spots_of.Given as goal

abbrev pub invariant-loop-place : goal.invariant-loop-place
invariant-loop-place l = l.spots.items ++ spots_of l.numbers (drop l.place l.postings)
    ≡ spots_of l.numbers l.postings
