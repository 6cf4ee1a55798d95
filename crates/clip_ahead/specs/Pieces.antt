-- The piece of a line whose end was not read.
use Rattle.std.specs.Prelude.{ℕ, List, [], ◌∷◌, if◌then◌else◌}
use Rattle.clip_stream.specs.Steps.Reading.{has_feed}

-- what stands behind the last line feed
abbrev pub last_piece : List ℕ → List ℕ
last_piece [] = []
last_piece (b ∷ bytes) = if has_feed (b ∷ bytes) then last_piece bytes else b ∷ bytes

-- it is a line at the end, where it has a byte
abbrev pub line_of_piece : List ℕ → List (List ℕ)
line_of_piece [] = []
line_of_piece (b ∷ bytes) = (b ∷ bytes) ∷ []
