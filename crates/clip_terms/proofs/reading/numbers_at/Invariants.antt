use Rattle.std.proofs.Common.{◌≡◌, map, take}
use Rattle.clip_terms.specs.Steps.Numbers.{number_at}
use Rattle.clip_terms.proofs.reading.numbers_at.Given as goal

abbrev pub invariant-loop-place : goal.invariant-loop-place
invariant-loop-place l = l.numbers.items ≡ map (number_at l.by_key) (take l.place-index l.places)
