-- A list that lies in pieces.
use Rattle.std.specs.Prelude.{◌≡◌, ℕ, ◌<◌, ◌≤◌, List, [], ◌∷◌, ◌++◌, length}

-- the items of lists, one list after another
abbrev pub joined : {Item : Type 0} → List (List Item) → List Item
joined [] = []
joined (piece ∷ rest) = piece ++ joined rest

-- each piece but the last has just `full` items, and the last has 1 to `full`
abbrev pub AreFilled : {Item : Type 0} → ℕ → List (List Item) → Type 0
AreFilled full [] = Unit {0}
AreFilled full (piece ∷ []) = (0 < length piece) × (length piece ≤ full)
AreFilled full (piece ∷ next ∷ rest) = (length piece ≡ full) × AreFilled full (next ∷ rest)
