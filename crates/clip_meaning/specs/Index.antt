-- The postings of a field: its words with their positions, and their order.
use Rattle.std.specs.Prelude.{ℕ, ◌+◌, List, [], ◌∷◌}
use Rattle.std.specs.Ordering.{nat_cmp, then_cmp, on}
use Rattle.std.specs.declared.cmp.Ordering.{Ordering}
use Rattle.clip_words.specs.Order.{bytes_cmp}

-- the words in order, each with its position, of which the first is `start`
abbrev pub numbered : ℕ → List (List ℕ) → List (List ℕ × ℕ)
numbered start [] = []
numbered start (word ∷ words) = (word, start) ∷ numbered (start + 1) words

-- postings compare by word, and those of one word by position
abbrev pub posting_cmp : List ℕ × ℕ → List ℕ × ℕ → Ordering
posting_cmp = then_cmp (on (λ p. p.0) bytes_cmp) (on (λ p. p.1) nat_cmp)
