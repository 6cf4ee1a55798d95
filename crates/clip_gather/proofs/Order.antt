-- The order of ids.
use Rattle.std.proofs.Common.{◌≡◌, ℕ, List, Bool, true, false, refl, sym, ap, ◌∙◌, ◌⊎◌, inl, inr}
use Rattle.std.proofs.lemmas.Cmp.{nat_list_cmp_total}
use Rattle.std.specs.Ordering.{is_gt, is_lt, ordering_reverse}
use Rattle.std.specs.declared.cmp.Ordering.{Ordering}
use Rattle.std.specs.declared.cmp.Ordering.TheVariants.{Less, Equal, Greater}
use Rattle.clip_words.specs.Order.{bytes_cmp}

abbrev pub gt : List ℕ → List ℕ → Bool
gt a b = is_gt (bytes_cmp a b)

pub either : (b : Bool) → (b ≡ true) ⊎ (b ≡ false)
either true = inl refl
either false = inr refl

reversed : (o : Ordering) → is_gt (ordering_reverse o) ≡ is_lt o
reversed Less = refl
reversed Equal = refl
reversed Greater = refl

-- one is below another where that is above it
pub lt_gt : (a b : List ℕ) → is_lt (bytes_cmp a b) ≡ gt b a
lt_gt a b = sym (ap is_gt (nat_list_cmp_total.antisymm b a) ∙ reversed _)

not_both : (o : Ordering) → is_gt o ≡ true → is_lt o ≡ false
not_both Less e = cc
not_both Equal e = cc
not_both Greater e = refl

pub gt_one_way : (a b : List ℕ) → gt a b ≡ true → gt b a ≡ false
gt_one_way a b h = sym (lt_gt a b) ∙ not_both _ h

is_less : (o : Ordering) → is_lt o ≡ true → o ≡ Less
is_less Less e = refl
is_less Equal e = cc
is_less Greater e = cc

below : (a b : List ℕ) → gt a b ≡ true → bytes_cmp b a ≡ Less
below a b h = is_less _ (lt_gt b a ∙ h)

pub not_gt : (a b c : List ℕ) → gt a b ≡ false → gt b c ≡ false → gt a c ≡ false
not_gt a b c h k = by (bytes_cmp a b) refl (either (gt a c))
  where
    by : (o : Ordering) → bytes_cmp a b ≡ o → (gt a c ≡ true) ⊎ (gt a c ≡ false) → gt a c ≡ false
    by o is (inr level) = level
    by Less is (inl above) =
        let less : bytes_cmp c b ≡ Less =
        nat_list_cmp_total.trans c a b (below a c above) is in
        let also : gt b c ≡ true = sym (lt_gt c b) ∙ ap is_lt less in
        cc
    by Equal is (inl above) =
        let same : gt a c ≡ gt b c = ap is_gt (nat_list_cmp_total.congr a b c is) in
        cc
    by Greater is (inl above) = let also : gt a b ≡ true = ap is_gt is in cc

-- what is below the first is below each that is not below the first
pub gt_later : (a b x : List ℕ) → gt a x ≡ true → gt a b ≡ false → gt b x ≡ true
gt_later a b x h k = by (either (gt b x))
  where
    by : (gt b x ≡ true) ⊎ (gt b x ≡ false) → gt b x ≡ true
    by (inl above) = above
    by (inr level) = let none : gt a x ≡ false = not_gt a b x k level in cc

pub gt_gt : (a b c : List ℕ) → gt a b ≡ true → gt b c ≡ true → gt a c ≡ true
gt_gt a b c h k = by (either (gt a c))
  where
    by : (gt a c ≡ true) ⊎ (gt a c ≡ false) → gt a c ≡ true
    by (inl above) = above
    by (inr level) = let none : gt a b ≡ false = not_gt a c b level (gt_one_way b c k) in cc
