use Rattle.std.proofs.Common.{◌≡◌, ◌++◌, [], map, drop}
use denote.Text.{Utf8}
use denote.Shadow.{shadow}
use Rattle.clip_extract.specs.Keys.{Front}
use Rattle.clip_terms.specs.Terms.{number_of}
use Rattle.clip_terms.specs.Steps.Numbers.{known}
use Rattle.clip_terms.specs.Steps.Fronts.{asked_fronts}
use Rattle.clip_terms.proofs.numbering.add_posting_fronts.Given as goal

abbrev pub invariant-loop-place : goal.invariant-loop-place
invariant-loop-place l =
    shadow (Utf8 l.last)
    × (l.numbers.items ++ known
    (map (number_of l.of_field.terms)
    (map (Front l.of_field.field) (asked_fronts l.last (map (λ p. p.0) (drop l.place l.postings)))))
    ≡ l.fn.numbers.items ++ known
    (map (number_of l.of_field.terms) (map (Front l.of_field.field) (asked_fronts [] (map (λ p. p.0) l.postings)))))
