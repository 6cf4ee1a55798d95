-- How two lists of keys, each in order, come into one.
use Rattle.std.specs.Prelude.{◌≡◌, ◌+◌, ◌<◌, ◌||◌, List, ◌∷◌, ◌++◌, length}
use Rattle.std.specs.List.{list_any}
use Rattle.std.specs.List.Sorted.{IsStrictlySortedBy}
use Rattle.clip_extract.specs.Keys.{KeyValue, key_cmp, is_same}

-- The first key comes before what is left of two lists, behind all that both of them stand behind, and these have each
-- key that the two lists have.
pub record IsLesser (left right : List KeyValue) (first : KeyValue) (lefts rights : List KeyValue) : Type 0 where
  pub left_rises : (before : List KeyValue)
      → IsStrictlySortedBy key_cmp (before ++ left) → IsStrictlySortedBy key_cmp (before ++ right)
      → IsStrictlySortedBy key_cmp (before ++ first ∷ lefts)
  pub right_rises : (before : List KeyValue)
      → IsStrictlySortedBy key_cmp (before ++ left) → IsStrictlySortedBy key_cmp (before ++ right)
      → IsStrictlySortedBy key_cmp (before ++ first ∷ rights)
  pub among : (key : KeyValue) → list_any (is_same key) (left ++ right)
      ≡ (is_same key first || list_any (is_same key) (lefts ++ rights))
  pub fewer : length lefts + length rights < length left + length right
