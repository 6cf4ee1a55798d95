use Rattle.std.proofs.Common.{◌≡◌, ◌++◌, map, length}
use Rattle.clip_extract.specs.Keys.{Front}
use Rattle.clip_extract.specs.Fronts.{fronts}
use Rattle.clip_terms.specs.Terms.{number_of}
use Rattle.clip_terms.specs.Steps.Numbers.{known}
use Rattle.clip_terms.specs.Steps.Fronts.{other_fronts}
use Rattle.clip_terms.proofs.numbering.add_word_fronts.Given as goal

abbrev pub invariant-loop-front : goal.invariant-loop-front
invariant-loop-front l =
    l.numbers.items ++ known
    (map (number_of l.of_field.terms) (map (Front l.of_field.field) (other_fronts l.lasts l.fronts)))
    ≡ l.fn.numbers.items ++ known
    (map (number_of l.of_field.terms) (map (Front l.of_field.field) (other_fronts (fronts l.last) (fronts l.word))))

abbrev pub decreases-loop-front : goal.decreases-loop-front
decreases-loop-front l = length l.fronts
