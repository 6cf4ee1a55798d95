-- The folding of texts in ASCII.
use Rattle.std.proofs.Common.{◌≡◌, ℕ, ◌<◌, List, map, encode_utf8_all, ap, ◌∙◌}
use Rattle.std.specs.Char.{to_ascii_lowercase}
use Rattle.std.specs.Str.{IsAscii}
use Rattle.std.proofs.lemmas.List.Elements.{All-map}
use Rattle.std.proofs.lemmas.Str.{chars-IsAscii, encodes-IsAscii}
use Rattle.std.proofs.lemmas.Str.Ascii.{lowercase_ascii, All-from_ascii, IsAscii-from_all}
use Rattle.caseless.proofs.CaselessLemmas.{default_case_fold-ascii, All-chars}
use Rattle.clip_words.specs.Words.{fold_of}

-- a text in ASCII stays so in lower case
pub lowered_ascii : (text : List ℕ) → IsAscii text → IsAscii (map to_ascii_lowercase text)
lowered_ascii text ascii = IsAscii-from_all _ (All-map (λ b. b < 128) to_ascii_lowercase text
    (λ k d lt. lowercase_ascii _ (All-from_ascii text ascii k d lt)))

-- A text in ASCII folds to itself in lower case.
pub fold_of_ascii : (text : List ℕ) → IsAscii text → fold_of text ≡ map to_ascii_lowercase text
unfolding fold_of
fold_of_ascii text ascii =
    ap encode_utf8_all (default_case_fold-ascii _ (All-chars text ascii)
    ∙ ap (map to_ascii_lowercase) (chars-IsAscii text ascii))
    ∙ encodes-IsAscii (map to_ascii_lowercase text) (lowered_ascii text ascii)
