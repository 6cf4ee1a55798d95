-- A map by ids, as the finite map that it is.
use Rattle.std.specs.Prelude.{ℕ, List, map, String, string_bytes}
use Rattle.std.specs.BTreeMap.{BTreeMap}
use Rattle.std.specs.FinMap as finite
use Rattle.std.specs.declared.alloc.Global.{Global}
use Rattle.clip_words.specs.Order.{bytes_cmp}

module _ {V X : Type 0} (value : V → X) where
  abbrev pub shown_pair : String Global × V → List ℕ × X
  shown_pair e = (string_bytes e.0, value e.1)

  -- the entries, with each id as its bytes and each value as what contracts see of it
  abbrev pub shown : BTreeMap (String Global) V → List (List ℕ × X)
  shown m = map shown_pair m.entries

  abbrev pub map_of : BTreeMap (String Global) V → finite.FinMap bytes_cmp X
  map_of m = finite.from_entries (shown m)
