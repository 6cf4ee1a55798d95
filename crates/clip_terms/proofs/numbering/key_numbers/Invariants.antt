use Rattle.std.proofs.Common.{◌≡◌, map, take}
use Rattle.clip_extract.specs.Keys.{key_of}
use Rattle.clip_terms.specs.Terms.{number_of}
use Rattle.clip_terms.proofs.numbering.key_numbers.Given as goal

abbrev pub invariant-loop-place : goal.invariant-loop-place
invariant-loop-place l = record {
  numbers : l.numbers.items ≡ map (number_of l.terms) (map key_of (take l.place l.keys));
  terms : l.of_field.terms ≡ l.terms;
}
