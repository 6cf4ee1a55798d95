use Rattle.std.proofs.Common.{◌≡◌, ◌+◌, ◌≤◌, ◌++◌, ◌||◌, length, drop}
use Rattle.std.specs.List.{list_any}
use Rattle.std.specs.List.Sorted.{IsStrictlySortedBy}
use Rattle.clip_extract.specs.Keys.{KeyValue, key_cmp, is_same}
use Rattle.clip_terms.proofs.heads.merged.Given as goal

abbrev pub invariant-loop-first : goal.invariant-loop-first
invariant-loop-first l = record {
  in_a : l.at_a ≤ length l.a;
  in_b : l.at_b ≤ length l.b;
  left : IsStrictlySortedBy key_cmp (l.heads.items ++ drop l.at_a l.a);
  right : IsStrictlySortedBy key_cmp (l.heads.items ++ drop l.at_b l.b);
  among : (key : KeyValue)
      → (list_any (is_same key) l.heads.items || list_any (is_same key) (drop l.at_a l.a ++ drop l.at_b l.b))
      ≡ list_any (is_same key) (l.a ++ l.b);
}

abbrev pub decreases-loop-first : goal.decreases-loop-first
decreases-loop-first l = length (drop l.at_a l.a) + length (drop l.at_b l.b)
