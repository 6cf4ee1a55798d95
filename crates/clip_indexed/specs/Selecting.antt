-- Lists of which some items are kept, and the indexes over several lists.
use Rattle.std.specs.Prelude.{◌≡◌, ℕ, Bool, List, [], ◌∷◌, ◌++◌, map, length, if◌then◌else◌}
use Rattle.std.specs.List.{count_by, sum_by}
use Rattle.clip_model.specs.History.{Registered}

-- the items whose flags are set; a missing flag is not
abbrev pub flagged : {A : Type 0} → List Bool → List A → List A
flagged [] items = []
flagged (flag ∷ flags) [] = []
flagged (flag ∷ flags) (item ∷ items) = if flag then item ∷ flagged flags items else flagged flags items

-- the items of several lists whose flags are set, one list after another
abbrev pub kept_of : {A : Type 0} → List (List A) → List (List Bool) → List A
kept_of [] flags = []
kept_of (items ∷ others) [] = []
kept_of (items ∷ others) (flags ∷ more) = flagged flags items ++ kept_of others more

-- how many flags are set
abbrev pub count_set : List (List Bool) → ℕ
count_set flags = sum_by (count_by (λ flag. flag)) flags

-- there is a list of flags for each list, and in it a flag for each item
abbrev pub AreFlagsOf : {A : Type 0} → List (List A) → List (List Bool) → Type 0
AreFlagsOf lists flags = map length flags ≡ map length lists

-- each is the index over its list of entries
abbrev pub AreIndexesOf : {I : Type 0} → (List Registered → I → Type 0) → List (List Registered) → List I → Type 0
AreIndexesOf is_of [] [] = Unit {0}
AreIndexesOf is_of [] (index ∷ indexes) = ⊥
AreIndexesOf is_of (entries ∷ lists) [] = ⊥
AreIndexesOf is_of (entries ∷ lists) (index ∷ indexes) = is_of entries index × AreIndexesOf is_of lists indexes
