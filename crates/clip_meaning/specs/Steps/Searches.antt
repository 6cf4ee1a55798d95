-- What a search among the postings of a field finds, and what is asked there.
use Rattle.std.specs.Prelude.{ℕ, Bool, not, List, drop}
use Rattle.std.specs.List.{prefix_len, starts_with}
use Rattle.std.specs.Str.{bytes_eq}
use Rattle.clip_grammar.specs.Tokens.{End}
use Rattle.clip_meaning.specs.Meaning.{above}

-- postings in order without the first ones, whose words are below the low end of a range
abbrev pub from_low : End → List (List ℕ × ℕ) → List (List ℕ × ℕ)
from_low low postings = drop (prefix_len (λ p. not (above low p.0)) postings) postings

-- a phrase begins at a position of the words
abbrev pub stands_at : List (List ℕ) → List (List ℕ) → ℕ → Bool
stands_at words phrase position = starts_with bytes_eq (drop position words) phrase
