-- Left-out forms among tokens, looked for from the left.
use Rattle.std.specs.Prelude.{Bool, true, false, not, ◌&&◌, ◌||◌, List, [], ◌∷◌}
use Rattle.clip_grammar.specs.Tokens as token
use Rattle.clip_grammar.specs.Tokens.{Token}
use Rattle.clip_grammar.specs.Reading.{begins_colon_star}

abbrev pub is_other : Token → Bool
is_other token.Other = true
is_other _ = false

abbrev pub is_star : Token → Bool
is_star token.Star = true
is_star _ = false

abbrev pub is_colon : Token → Bool
is_colon token.Colon = true
is_colon _ = false

-- The first token is left out. `after_star_colon` says whether a star and a colon stand before it.
abbrev pub begins_left_out : (after_star_colon : Bool) → Token → List Token → Bool
begins_left_out after_star_colon t ts = is_other t || (is_star t && not after_star_colon && not (begins_colon_star ts))

-- Some token is left out. The first two say whether a star, and whether a star and a colon, stand before.
unfoldable pub leaves_out : (star after_star_colon : Bool) → List Token → Bool
leaves_out star after_star_colon [] = false
leaves_out star after_star_colon (t ∷ ts) =
    begins_left_out after_star_colon t ts || leaves_out (is_star t) (is_colon t && star) ts
