-- Keys of a query, one after another.
use Rattle.std.proofs.Common.{◌≡◌, true, false}
use Rattle.std.proofs.Common.{refl, ◌∙◌, ap}
use Rattle.std.proofs.lemmas.Bool.{false≢true}
use Rattle.std.specs.Ordering.{is_eq, is_lt, ordering_reverse}
use Rattle.std.specs.declared.cmp.Ordering.{Ordering}
use Rattle.std.specs.declared.cmp.Ordering.TheVariants.{Less, Equal, Greater}
use Rattle.clip_extract.proofs.Order.{key_cmp_total}
use Rattle.clip_extract.specs.Keys.{KeyValue, key_cmp, is_same}

-- ---- keys that are not the same

-- a key is not the same as one below it
pub above_apart : (k q : KeyValue) → is_lt (key_cmp k q) ≡ true → is_same q k ≡ false
above_apart k q lower = ap is_eq (key_cmp_total.antisymm q k) ∙ reversed (key_cmp k q) lower where
  reversed : (o : Ordering) → is_lt o ≡ true → is_eq (ordering_reverse o) ≡ false
  reversed Less h = refl
  reversed Equal h = absurd (false≢true h)
  reversed Greater h = absurd (false≢true h)

pub flipped : (k q : KeyValue) → is_same k q ≡ is_same q k
flipped k q = ap is_eq (key_cmp_total.antisymm k q) ∙ turned (key_cmp q k) where
  turned : (o : Ordering) → is_eq (ordering_reverse o) ≡ is_eq o
  turned Less = refl
  turned Equal = refl
  turned Greater = refl
