use Rattle.std.proofs.Common.{◌≡◌, length, map}
use Rattle.clip_grammar.specs.Reading.{begins_colon_star}
use Rattle.clip_explain.specs.Lexemes.{placed_of}
use Rattle.clip_explain.specs.Places.{IsLeftOut}
use Rattle.clip_explain.specs.Steps.Searching.{IsSearching, ends_star}
use Rattle.clip_explain.proofs.places.left_out_place.Given as goal

abbrev pub invariant-loop-first : goal.invariant-loop-first
invariant-loop-first l =
    IsSearching IsLeftOut
    (λ earlier. (l.after_star ≡ ends_star earlier) × (l.after_star_colon ≡ begins_colon_star earlier))
    (map placed_of l.lexemes) (map placed_of l.rest) l.end

abbrev pub decreases-loop-first : goal.decreases-loop-first
decreases-loop-first l = length l.rest
