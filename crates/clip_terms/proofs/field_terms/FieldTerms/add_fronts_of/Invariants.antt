use Rattle.clip_extract.specs.Covering.{front_keys}
use Rattle.clip_terms.specs.Steps.Fronts.{AddsNumbersBelow, AreBelowFronts}
use Rattle.clip_terms.proofs.field_terms.FieldTerms.add_fronts_of.Given as goal

abbrev pub invariant-loop-number : goal.invariant-loop-number
invariant-loop-number l = record {
  added : AddsNumbersBelow l.self.terms (front_keys l.field) l.number l.fn.numbers.items l.numbers.items;
  below : AreBelowFronts l.self.terms l.self.field l.words l.place l.number;
}
