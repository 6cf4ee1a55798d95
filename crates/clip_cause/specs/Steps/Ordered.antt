-- Objects that list their members in the byte order of the names, each name once, as those do that are read from text.
use Rattle.std.specs.Prelude.{◌≡◌, ℕ, List, ⊤}
use Rattle.std.specs.Ordering.{nat_cmp}
use Rattle.std.specs.Cmp.Lexicographic.{slice_cmp}
use Rattle.std.specs.declared.cmp.Ordering.TheVariants.{Less}
use Rattle.serde_json.specs.Data.{Data, null, boolean, number, string, array, object, Items, no_items, item, Members}
use Rattle.serde_json.specs.Data.{no_members, member}

abbrev pub IsBefore : List ℕ → List ℕ → Type 0
IsBefore k l = slice_cmp nat_cmp k l ≡ Less

-- the name is before that of each member
abbrev pub IsBeforeAll : List ℕ → Members → Type 0
IsBeforeAll k no_members = ⊤
IsBeforeAll k (member l d ms) = IsBefore k l × IsBeforeAll k ms

abbrev mutual
  pub IsOrdered : Data → Type 0
  IsOrdered null = ⊤
  IsOrdered (boolean b) = ⊤
  IsOrdered (number n) = ⊤
  IsOrdered (string s) = ⊤
  IsOrdered (array ds) = AreOrdered ds
  IsOrdered (object ms) = AreMembersOrdered ms

  pub AreOrdered : Items → Type 0
  AreOrdered no_items = ⊤
  AreOrdered (item d ds) = IsOrdered d × AreOrdered ds

  pub AreMembersOrdered : Members → Type 0
  AreMembersOrdered no_members = ⊤
  AreMembersOrdered (member k d ms) = IsBeforeAll k ms × (IsOrdered d × AreMembersOrdered ms)
