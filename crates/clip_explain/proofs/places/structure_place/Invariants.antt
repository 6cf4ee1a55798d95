use Rattle.std.proofs.Common.{◌≡◌, ◌+◌, ◌≤◌, Some, length, map}
use Rattle.clip_explain.specs.Lexemes.{placed_of}
use Rattle.clip_explain.specs.Places.{IsOutOfPlace}
use Rattle.clip_explain.specs.Steps.Fronts.{after_all}
use Rattle.clip_explain.specs.Steps.Searching.{IsSearching}
use Rattle.clip_explain.proofs.places.structure_place.Given as goal

abbrev pub invariant-loop-lexeme : goal.invariant-loop-lexeme
invariant-loop-lexeme l =
    IsSearching IsOutOfPlace (λ earlier. after_all earlier ≡ Some l.front)
    (map placed_of l.lexemes) (map placed_of l.rest) l.end
    × (l.front.depth + length l.rest ≤ length l.lexemes)

abbrev pub decreases-loop-lexeme : goal.decreases-loop-lexeme
decreases-loop-lexeme l = length l.rest
