-- Which words of a field a plan names, from its last mark to its first: what stands in an excluded group names none,
-- and a group says so only where it ends.
use Rattle.std.specs.Prelude.{ℕ, ◌+◌, ◌-◌, ◌==◌, Bool, false, ◌&&◌, ◌||◌, cond, List, [], ◌∷◌, get_or}
use Rattle.clip_meaning.specs.Hits.{asks, is_named}
use Rattle.clip_extract.specs.Keys.{KeyValue}
use Rattle.clip_terms.specs.Spots.{FieldValue, is_at, is_covered}
use Rattle.clip_plan.specs.Plan.{Asks, Has, Run, Is, Mark, Leaf, Open, Close}

-- ---- groups

-- How many open groups are excluded, or stand in one that is: before a mark, of the count behind it.
abbrev pub excluded_before : {K : Type 0} → Mark K → ℕ → ℕ
excluded_before (Leaf occur leaf) excluded = excluded
excluded_before (Open occur inside) excluded = excluded - 1
excluded_before (Close occur) excluded = cond (asks occur && excluded == 0) 0 (excluded + 1)

-- How many are excluded before all of the marks, of the count behind them.
abbrev pub excluded_at : {K : Type 0} → List (Mark K) → ℕ → ℕ
excluded_at [] excluded = excluded
excluded_at (mark ∷ marks) excluded = excluded_before mark (excluded_at marks excluded)

-- ---- leaves

-- a leaf that asks
abbrev pub mark_asks : {K : Type 0} → Mark K → Bool
mark_asks (Leaf occur leaf) = asks occur
mark_asks (Open occur inside) = false
mark_asks (Close occur) = false

-- the leaf names the word at a position of the field, whether it asks or not
abbrev pub leaf_names : FieldValue → (position : ℕ) → Asks KeyValue → Bool
leaf_names field position (Has key) = is_at field position key
leaf_names field position (Run keys) = is_covered field keys position
leaf_names field position (Is tree) = is_named tree field.0 field.1 (get_or field.1 position [], position)

-- the mark is a leaf that names the word at a position of the field
abbrev pub mark_names : FieldValue → (position : ℕ) → Mark KeyValue → Bool
mark_names field position (Leaf occur leaf) = leaf_names field position leaf
mark_names field position (Open occur inside) = false
mark_names field position (Close occur) = false

-- the mark is a leaf that asks, in no excluded group, and names the word
abbrev pub step_names : FieldValue → (position : ℕ) → Mark KeyValue → (excluded : ℕ) → Bool
step_names field position mark excluded = (mark_asks mark && excluded == 0) && mark_names field position mark

-- one of the marks is and does, where `excluded` is the count behind them
abbrev pub marks_name : FieldValue → (position : ℕ) → List (Mark KeyValue) → (excluded : ℕ) → Bool
marks_name field position [] excluded = false
marks_name field position (mark ∷ marks) excluded =
    step_names field position mark (excluded_at marks excluded) || marks_name field position marks excluded
