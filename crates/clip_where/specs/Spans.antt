-- Where in a text its words stand. A text is its bytes.
use Rattle.std.specs.Prelude.{ℕ, ◌+◌, ◌<◌, ◌≤◌, List, [], ◌∷◌, map, filter, length, slice_range}
use Rattle.std.specs.Str.{IsCharBoundary}
use Rattle.unicode_segmentation.specs.Segments.{with_offsets, has_alphanumeric}
use Rattle.unicode_segmentation.specs.Word.{word_bounds}
use Rattle.clip_where.specs.declared.WordSpan.{WordSpan}

-- what stands there in the text
abbrev pub piece : List ℕ → WordSpan → List ℕ
piece text span = slice_range text span.start span.end

-- where a piece stands that begins at a place
abbrev pub span_at : ℕ × List ℕ → WordSpan
span_at found = record { start = found.0; end = found.0 + length found.1 }

-- of the pieces between the word boundaries of UAX #29 those that have a letter or a number, each where it stands
abbrev pub spans_of : List ℕ → List WordSpan
spans_of text = map span_at (filter (λ found. has_alphanumeric found.1) (with_offsets 0 (word_bounds text)))

-- From a place on each has a byte, and none begins before the end of the one before it.
abbrev pub AreApart : (from : ℕ) → List WordSpan → Type 0
AreApart from [] = Unit {0}
AreApart from (span ∷ spans) = (from ≤ span.start) × (span.start < span.end) × AreApart span.end spans

-- it begins and ends between characters of the text
abbrev pub IsBetweenCharacters : List ℕ → WordSpan → Type 0
IsBetweenCharacters text span = IsCharBoundary text span.start × IsCharBoundary text span.end
