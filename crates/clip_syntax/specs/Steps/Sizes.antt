-- The size of a query's tree, counted on its tokens.
use Rattle.std.specs.Prelude.{ℕ, ◌+◌, ◌-◌, max, Bool, true, false, List, [], ◌∷◌}
use Rattle.clip_grammar.specs.Tokens as token
use Rattle.clip_grammar.specs.Tokens.{Token}

-- The token counts as a node. A field is one such token and a colon, and `*:*` is two and a colon.
abbrev pub is_node : Token → Bool
is_node (token.Plain _) = true
is_node (token.Front _) = true
is_node (token.Phrase _) = true
is_node (token.Range _ _) = true
is_node token.Star = true
is_node token.Open = true
is_node _ = false

-- how many parentheses are open after a token
abbrev pub open_after : Token → ℕ → ℕ
open_after token.Open n = n + 1
open_after token.Close n = n - 1
open_after _ n = n

-- the most parentheses that are open at once
abbrev pub most_open : List Token → ℕ → ℕ
most_open [] n = n
most_open (t ∷ ts) n = max n (most_open ts (open_after t n))
