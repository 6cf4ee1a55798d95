use Rattle.std.proofs.Common.{◌≡◌, map, take}
use Rattle.clip_extract.specs.Keys.{Word}
use Rattle.clip_terms.specs.Terms.{number_of}
use Rattle.clip_terms.proofs.numbering.word_numbers.Given as goal

abbrev pub invariant-loop-place : goal.invariant-loop-place
invariant-loop-place l = l.numbers.items
    ≡ map (number_of l.of_field.terms)
    (map (λ w. Word l.of_field.field w.now) (take l.place l.words))
