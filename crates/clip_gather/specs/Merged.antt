-- Lists of what stands by the ids of queries, merged. What stands there is read by an `id`.
use Rattle.std.specs.Prelude.{◌≡◌, ℕ, false, List, [], ◌∷◌}
use Rattle.std.specs.Ordering.{is_gt}
use Rattle.std.specs.FinMap.Entries.{by_order}
use Rattle.clip_words.specs.Order.{bytes_cmp}

-- an item before the first whose id is not below its own
abbrev pub placed_by : {A : Type 0} → (A → List ℕ) → A → List A → List A
placed_by id a [] = a ∷ []
placed_by id a (b ∷ bs) = by_order (bytes_cmp (id a) (id b)) (a ∷ b ∷ bs) (a ∷ b ∷ bs) (b ∷ placed_by id a bs)

abbrev pub merged_by : {A : Type 0} → (A → List ℕ) → List A → List A → List A
merged_by id [] bs = bs
merged_by id (a ∷ rest) bs = placed_by id a (merged_by id rest bs)

-- the lists, each merged with what those behind it make
abbrev pub merged_all : {A : Type 0} → (A → List ℕ) → List (List A) → List A
merged_all id [] = []
merged_all id (first ∷ rest) = merged_by id first (merged_all id rest)

-- the item's id is not above that of the first
abbrev pub IsNotAbove : {A : Type 0} → (A → List ℕ) → A → List A → Type 0
IsNotAbove id a [] = Unit {0}
IsNotAbove id a (b ∷ bs) = is_gt (bytes_cmp (id a) (id b)) ≡ false

-- no id is above the next
abbrev pub NeverFalls : {A : Type 0} → (A → List ℕ) → List A → Type 0
NeverFalls id [] = Unit {0}
NeverFalls id (a ∷ rest) = IsNotAbove id a rest × NeverFalls id rest

abbrev pub NoneFalls : {A : Type 0} → (A → List ℕ) → List (List A) → Type 0
NoneFalls id [] = Unit {0}
NoneFalls id (list ∷ lists) = NeverFalls id list × NoneFalls id lists
