-- Escaped texts, character by character.
use Rattle.std.proofs.Common.{◌≡◌, ℕ, Bool, List, [], ◌++◌, length, flat_map, encode_utf8, encode_utf8_all}
use Rattle.std.proofs.Common.{ap, ◌∙◌}
use Rattle.std.specs.Str.{chars, IsUtf8}
use Rattle.std.proofs.lemmas.Str.{chars_past_char, encodes-append}
use Rattle.std.proofs.StrCases.{chars_of_empty}
use Rattle.clip_explain.specs.Spelling.{escaped, escaped_char}

pub escaped_step : (quoted : Bool) (text later : List ℕ) (c : ℕ) → IsUtf8 text → text ≡ encode_utf8 c ++ later
    → escaped quoted text ≡ encode_utf8_all (escaped_char quoted c) ++ escaped quoted later
unfolding escaped
escaped_step quoted text later c utf8 parts =
    ap (λ cs. encode_utf8_all (flat_map (escaped_char quoted) cs)) (chars_past_char text later c utf8 parts)
    ∙ encodes-append (escaped_char quoted c) (flat_map (escaped_char quoted) (chars later))

pub escaped_empty : (quoted : Bool) (text : List ℕ) → length text ≡ 0 → escaped quoted text ≡ []
unfolding escaped
escaped_empty quoted text none =
    ap (λ cs. encode_utf8_all (flat_map (escaped_char quoted) cs)) (chars_of_empty text none)
