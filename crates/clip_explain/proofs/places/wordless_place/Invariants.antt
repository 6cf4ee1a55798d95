use Rattle.std.proofs.Common.{length, map}
use Rattle.clip_explain.specs.Lexemes.{placed_of}
use Rattle.clip_explain.specs.Places.{HasNoWords}
use Rattle.clip_explain.specs.Steps.Searching.{IsSearching}
use Rattle.clip_explain.proofs.places.wordless_place.Given as goal

abbrev pub invariant-loop-first : goal.invariant-loop-first
invariant-loop-first l =
    IsSearching HasNoWords (λ earlier. Unit {0}) (map placed_of l.lexemes) (map placed_of l.rest) l.end

abbrev pub decreases-loop-first : goal.decreases-loop-first
decreases-loop-first l = length l.rest
