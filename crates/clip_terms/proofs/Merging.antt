-- Two lists of keys, each in order, in one.
use Rattle.std.proofs.Common.{◌≡◌, ℕ, suc, ◌+◌, ◌-◌, ◌<◌, Bool, true, false, ◌||◌, List, [], ◌∷◌, ◌++◌, Less, length}
use Rattle.std.proofs.Common.{take, drop, get_or, length-drop, add-one, drop-cons, refl, sym, ap, ◌∙◌, subst}
use Rattle.std.proofs.Common.{append_assoc, arith}
use Rattle.std.specs.List.{list_any, AllByRecursion}
use Rattle.std.specs.List.Sorted.{IsStrictlySortedBy}
use Rattle.std.proofs.lemmas.List.Folds.{list_any-append}
use Rattle.std.proofs.lemmas.List.{take_all}
use Rattle.clip_extract.specs.Keys.{KeyValue, key_cmp, is_same, in_order}
use Rattle.clip_extract.proofs.Members.{strict_keys}
use Rattle.clip_extract.proofs.Order.{key_cmp_total, key_cmp_same}
use Rattle.clip_terms.specs.Steps.Merging.{IsLesser}
use Rattle.clip_terms.proofs.Numbers.{IsRising}

-- ---- order

all_behind : (P : KeyValue → Type 0) (xs : List KeyValue) (z : KeyValue) (zs ys : List KeyValue)
    → AllByRecursion P (xs ++ z ∷ zs) → AllByRecursion P (xs ++ ys) → AllByRecursion P (xs ++ z ∷ ys)
all_behind P [] z zs ys first others = (first.0, others)
all_behind P (x ∷ xs) z zs ys first others = (first.0, all_behind P xs z zs ys first.1 others.1)

-- a key that rises behind others, before a list that does, and is below it
rises_before : (xs : List KeyValue) (z : KeyValue) (zs ys : List KeyValue) → IsRising (xs ++ z ∷ zs)
    → IsRising (xs ++ ys) → AllByRecursion (λ y. key_cmp z y ≡ Less) ys → IsRising (xs ++ z ∷ ys)
unfolding IsStrictlySortedBy
rises_before [] z zs ys first others below = (below, others)
rises_before (x ∷ xs) z zs ys first others below =
    (all_behind (λ y. key_cmp x y ≡ Less) xs z zs ys first.0 others.0, rises_before xs z zs ys first.1 others.1 below)

below_all : (z y : KeyValue) (ys : List KeyValue) → key_cmp z y ≡ Less → AllByRecursion (λ k. key_cmp y k ≡ Less) ys
    → AllByRecursion (λ k. key_cmp z k ≡ Less) ys
below_all z y [] less all = tt
below_all z y (k ∷ ys) less all = (key_cmp_total.trans z y k less all.0, below_all z y ys less all.1)

last_rise : (xs ys : List KeyValue) → IsRising (xs ++ ys) → IsRising ys
unfolding IsStrictlySortedBy
last_rise [] ys up = up
last_rise (x ∷ xs) ys up = last_rise xs ys up.1

below_first : (xs : List KeyValue) (z y : KeyValue) (ys : List KeyValue) → key_cmp z y ≡ Less → IsRising (xs ++ y ∷ ys)
    → AllByRecursion (λ k. key_cmp z k ≡ Less) (y ∷ ys)
unfolding IsStrictlySortedBy
below_first xs z y ys less up = (less, below_all z y ys less (last_rise xs (y ∷ ys) up).0)

-- ---- members

swapped : (a b c : Bool) → (a || (b || c)) ≡ (b || (a || c))
swapped true true c = refl
swapped true false c = refl
swapped false true c = refl
swapped false false c = refl

twice : (a c : Bool) → (a || (a || c)) ≡ (a || c)
twice true c = refl
twice false c = refl

any_moved : (p : KeyValue → Bool) (xs : List KeyValue) (y : KeyValue) (ys : List KeyValue)
    → list_any p (xs ++ y ∷ ys) ≡ (p y || list_any p (xs ++ ys))
any_moved p [] y ys = refl
any_moved p (x ∷ xs) y ys = ap (λ b. p x || b) (any_moved p xs y ys) ∙ swapped (p x) (p y) (list_any p (xs ++ ys))

-- ---- the lesser of the first two

lesser_left : (x y : KeyValue) (xs ys : List KeyValue) → key_cmp x y ≡ Less → IsLesser (x ∷ xs) (y ∷ ys) x xs (y ∷ ys)
lesser_left x y xs ys less = record {
  left_rises = λ before left right. left;
  right_rises = λ before left right.
      rises_before before x xs (y ∷ ys) left right (below_first before x y ys less right);
  among = λ key. refl;
  fewer = omega arith;
}

lesser_both : (x y : KeyValue) (xs ys : List KeyValue) → x ≡ y → IsLesser (x ∷ xs) (y ∷ ys) x xs ys
lesser_both x y xs ys same = record {
  left_rises = λ before left right. left;
  right_rises = λ before left right. subst (λ (k : KeyValue). IsRising (before ++ k ∷ ys)) (sym same) right;
  among = λ key.
      ap (λ b. is_same key x || b) (any_moved (is_same key) xs y ys
      ∙ ap (λ k. is_same key k || list_any (is_same key) (xs ++ ys)) (sym same))
      ∙ twice (is_same key x) (list_any (is_same key) (xs ++ ys));
  fewer = omega arith;
}

lesser_right : (x y : KeyValue) (xs ys : List KeyValue) → key_cmp y x ≡ Less → IsLesser (x ∷ xs) (y ∷ ys) y (x ∷ xs) ys
lesser_right x y xs ys less = record {
  left_rises = λ before left right. rises_before before y ys (x ∷ xs) right left (below_first before y x xs less left);
  right_rises = λ before left right. right;
  among = λ key. any_moved (is_same key) (x ∷ xs) y ys;
  fewer = omega arith;
}

-- what is left from a place on
dropped : (xs : List KeyValue) (i : ℕ) (x : KeyValue) → i < length xs → x ≡ get_or xs i x
    → drop i xs ≡ x ∷ drop (i + 1) xs
dropped xs i x lt is = rw add-one (drop-cons xs i x lt ∙ ap (λ k. k ∷ drop (suc i) xs) (sym is))

module _ (left right : List KeyValue) (i j : ℕ) (x y : KeyValue) (in_left : i < length left) (here : x
    ≡ get_or left i x) (in_right : j < length right) (there : y ≡ get_or right j y) where
  pub left_first : key_cmp x y ≡ Less → IsLesser (drop i left) (drop j right) x (drop (i + 1) left) (drop j right)
  left_first less =
      subst (λ (l : List KeyValue). IsLesser l (drop j right) x (drop (i + 1) left) (drop j right))
      (sym (dropped left i x in_left here))
      (subst (λ (r : List KeyValue). IsLesser (x ∷ drop (i + 1) left) r x (drop (i + 1) left) r)
      (sym (dropped right j y in_right there)) (lesser_left x y (drop (i + 1) left) (drop (j + 1) right) less))

  pub both_first : x ≡ y → IsLesser (drop i left) (drop j right) x (drop (i + 1) left) (drop (j + 1) right)
  both_first same =
      subst (λ (l : List KeyValue). IsLesser l (drop j right) x (drop (i + 1) left) (drop (j + 1) right))
      (sym (dropped left i x in_left here))
      (subst (λ (r : List KeyValue). IsLesser (x ∷ drop (i + 1) left) r x (drop (i + 1) left) (drop (j + 1) right))
      (sym (dropped right j y in_right there)) (lesser_both x y (drop (i + 1) left) (drop (j + 1) right) same))

  pub right_first : key_cmp y x ≡ Less → IsLesser (drop i left) (drop j right) y (drop i left) (drop (j + 1) right)
  right_first less =
      subst (λ (l : List KeyValue). IsLesser l (drop j right) y l (drop (j + 1) right))
      (sym (dropped left i x in_left here))
      (subst (λ (r : List KeyValue). IsLesser (x ∷ drop (i + 1) left) r y (x ∷ drop (i + 1) left) (drop (j + 1) right))
      (sym (dropped right j y in_right there)) (lesser_right x y (drop (i + 1) left) (drop (j + 1) right) less))

-- ---- a list so far, and what is left

-- with all that is left it is in order
pub all_merged : (heads left right all : List KeyValue) → IsRising ((heads ++ left) ++ right)
    → ((key : KeyValue) → (list_any (is_same key) heads || list_any (is_same key) (left ++ right))
    ≡ list_any (is_same key) all)
    → (heads ++ left) ++ right ≡ in_order all
all_merged heads left right all up among =
    strict_keys key_cmp_total key_cmp_same ((heads ++ left) ++ right) all up
    (λ key. ap (list_any (is_same key)) (append_assoc heads left right)
    ∙ list_any-append (is_same key) heads (left ++ right) ∙ among key)

-- all that is left from a place on
pub rest : (xs : List KeyValue) (i : ℕ) → take (length xs - i) (drop i xs) ≡ drop i xs
rest xs i = take_all (length xs - i) (drop i xs) (omega (arith, length-drop i xs))
