-- Lists that lie one after another, by where each ends.
use Rattle.std.specs.Prelude.{◌≡◌, ℕ, ◌≤◌, ◌-◌, List, [], ◌∷◌, length, take, drop}

-- the items up to each end, from the end before
abbrev pub cut : {Item : Type 0} → ℕ → List ℕ → List Item → List (List Item)
cut start [] items = []
cut start (end ∷ ends) items = take (end - start) (drop start items) ∷ cut end ends items

-- the ends don't fall, and the last is that of the items
abbrev pub AreEnds : {Item : Type 0} → ℕ → List ℕ → List Item → Type 0
AreEnds start [] items = start ≡ length items
AreEnds start (end ∷ ends) items = (start ≤ end) × AreEnds end ends items
