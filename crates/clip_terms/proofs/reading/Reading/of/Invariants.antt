use Rattle.std.proofs.Common.{◌≡◌, [], ◌∷◌, map, flat_map, take}
use Rattle.clip_extract.specs.Keys.{Any}
use Rattle.clip_extract.specs.Covering.{field_keys}
use Rattle.clip_terms.specs.Terms.{number_of}
use Rattle.clip_terms.specs.Steps.Fronts.{AddsNumbersOf}
use Rattle.clip_terms.proofs.ReadingOf.{all_of_field}
use Rattle.clip_terms.proofs.reading.Reading.of.Given as goal

abbrev pub invariant-loop-asked : goal.invariant-loop-asked
invariant-loop-asked l = record {
  added : AddsNumbersOf l.terms (Any ∷ flat_map all_of_field (take l.asked-index l.asked-items)) [] l.numbers.items;
  fields : l.fields.items
      ≡ map (λ field. map (number_of l.terms) (field_keys field)) (take l.asked-index l.asked-items);
}
