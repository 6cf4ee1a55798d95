-- What the index of listeners says.
use Rattle.std.specs.Prelude.{◌≡◌, ℕ, List, String, bytes_eq}
use Rattle.std.specs.BTreeMap.{BTreeMap, get_by_text}
use Rattle.std.specs.List.{position_from}
use Rattle.std.specs.declared.alloc.Global.{Global}

-- the index has for each name the first place at which it is, where the places count from this one
abbrev pub Indexes : BTreeMap (String Global) ℕ → ℕ → List (List ℕ) → Type 0
Indexes index start names = (name : List ℕ) → get_by_text index name ≡ position_from (bytes_eq name) start names
