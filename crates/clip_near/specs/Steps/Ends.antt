-- The ends of a query's places among the words.
use Rattle.std.specs.Prelude.{◌≡◌, ℕ, Bool, true, false, ◌+◌, ◌-◌, ◌<◌, ◌≤◌, ◌&&◌, List, Option, Some, None, nat_le}
use Rattle.clip_grammar.specs.Tree.{Tree}
use Rattle.clip_near.specs.Near.{stands_at, width, is_close}

-- a place of the query ends before this position
abbrev pub ends_at : Tree → List (List ℕ) → (position : ℕ) → Bool
ends_at query words position = nat_le (width query) position && stands_at query words (position - width query)

-- A place of the query ends at `end`, and of those that end below `below` none ends later.
pub record LastEnd (query : Tree) (words : List (List ℕ)) (below end : ℕ) : Type 0 where
  pub start : ℕ
  pub ends : start + width query ≡ end
  pub standing : stands_at query words start ≡ true
  pub low : end < below
  pub last : (k : ℕ) → stands_at query words k ≡ true → k + width query < below → k + width query ≤ end

-- the last end below a position, if there is one
abbrev pub IsLastEnd : Tree → List (List ℕ) → (below : ℕ) → Option ℕ → Type 0
IsLastEnd query words below None = (k : ℕ) → stands_at query words k ≡ true → below ≤ k + width query
IsLastEnd query words below (Some end) = LastEnd query words below end

-- the query stands at the position, with at most so many words between it and the end
abbrev pub stands_behind : (between : ℕ) → (end : Option ℕ) → Tree → List (List ℕ) → (position : ℕ) → Bool
stands_behind between None query words position = false
stands_behind between (Some end) query words position = is_close between end position && stands_at query words position
