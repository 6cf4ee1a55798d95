-- Lists of items that never fall by their ids, and what they merge to.
use Rattle.std.proofs.Common.{◌≡◌, ℕ, true, false, List, [], ◌∷◌, ◌++◌, refl, sym, ap, ◌∙◌, ◌⊎◌, inl, inr, subst}
use Rattle.std.specs.Ordering.{is_gt, is_lt}
use Rattle.std.specs.FinMap.Entries.{by_order}
use Rattle.std.specs.declared.cmp.Ordering.{Ordering}
use Rattle.std.specs.declared.cmp.Ordering.TheVariants.{Less, Equal, Greater}
use Rattle.clip_words.specs.Order.{bytes_cmp}
use Rattle.clip_gather.specs.Merged.{IsNotAbove, NeverFalls, placed_by, merged_by, merged_all}
use Rattle.clip_gather.specs.Steps.Merging.{IsNotBelow}
use Rattle.clip_gather.proofs.Order.{gt, either, lt_gt, gt_one_way, not_gt, gt_later, gt_gt}

-- ---- one item in a list

front : {X : Type 0} (o : Ordering) (x y : X) → is_gt o ≡ false → by_order o x x y ≡ x
front Less x y h = refl
front Equal x y h = refl
front Greater x y h = cc

behind : {X : Type 0} (o : Ordering) (x y : X) → is_gt o ≡ true → by_order o x x y ≡ y
behind Less x y h = cc
behind Equal x y h = cc
behind Greater x y h = refl

placed_front : {A : Type 0} (id : A → List ℕ) (a : A) (bs : List A) → IsNotAbove id a bs → placed_by id a bs ≡ a ∷ bs
placed_front id a [] h = refl
placed_front id a (b ∷ bs) h = front (bytes_cmp (id a) (id b)) (a ∷ b ∷ bs) (b ∷ placed_by id a bs) h

placed_behind : {A : Type 0} (id : A → List ℕ) (a b : A) (bs : List A) → gt (id a) (id b) ≡ true
    → placed_by id a (b ∷ bs) ≡ b ∷ placed_by id a bs
placed_behind id a b bs h = behind (bytes_cmp (id a) (id b)) (a ∷ b ∷ bs) (b ∷ placed_by id a bs) h

-- ---- order

not_above_later : {A : Type 0} (id : A → List ℕ) (a b : A) (bs : List A) → gt (id a) (id b) ≡ false
    → IsNotAbove id b bs → IsNotAbove id a bs
not_above_later id a b [] h k = tt
not_above_later id a b (c ∷ bs) h k = not_gt (id a) (id b) (id c) h k

not_above_placed : {A : Type 0} (id : A → List ℕ) (a x : A) (bs : List A) → gt (id a) (id x) ≡ false
    → IsNotAbove id a bs → IsNotAbove id a (placed_by id x bs)
not_above_placed id a x [] h k = h
not_above_placed id a x (b ∷ bs) h k = by (either (gt (id x) (id b)))
  where
    by : (gt (id x) (id b) ≡ true) ⊎ (gt (id x) (id b) ≡ false) → IsNotAbove id a (placed_by id x (b ∷ bs))
    by (inl above) = subst (IsNotAbove id a) (sym (placed_behind id x b bs above)) k
    by (inr level) = subst (IsNotAbove id a) (sym (placed_front id x (b ∷ bs) level)) h

not_above_merged : {A : Type 0} (id : A → List ℕ) (a : A) (xs bs : List A) → NeverFalls id xs → IsNotAbove id a xs
    → IsNotAbove id a bs
    → IsNotAbove id a (merged_by id xs bs)
not_above_merged id a [] bs falls h k = k
not_above_merged id a (x ∷ xs) bs falls h k =
    not_above_placed id a x (merged_by id xs bs) h
    (not_above_merged id a xs bs falls.1 (not_above_later id a x xs h falls.0) k)

never_placed : {A : Type 0} (id : A → List ℕ) (x : A) (bs : List A) → NeverFalls id bs
    → NeverFalls id (placed_by id x bs)
never_placed id x [] h = (tt, tt)
never_placed id x (b ∷ bs) h = by (never_placed id x bs h.1) (either (gt (id x) (id b)))
  where
    by : NeverFalls id (placed_by id x bs) → (gt (id x) (id b) ≡ true) ⊎ (gt (id x) (id b) ≡ false)
        → NeverFalls id (placed_by id x (b ∷ bs))
    by rest (inl above) = subst (NeverFalls id) (sym (placed_behind id x b bs above))
        (not_above_placed id b x bs (gt_one_way (id x) (id b) above) h.0, rest)
    by rest (inr level) = subst (NeverFalls id) (sym (placed_front id x (b ∷ bs) level)) (level, h)

pub never_merged : {A : Type 0} (id : A → List ℕ) (xs bs : List A) → NeverFalls id bs
    → NeverFalls id (merged_by id xs bs)
never_merged id [] bs h = h
never_merged id (x ∷ xs) bs h = never_placed id x (merged_by id xs bs) (never_merged id xs bs h)

-- ---- the steps of a merge

abbrev AllAbove : {A : Type 0} (id : A → List ℕ) → A → List A → Type 0
AllAbove id x [] = Unit {0}
AllAbove id x (a ∷ xs) = (gt (id a) (id x) ≡ true) × AllAbove id x xs

all_above : {A : Type 0} (id : A → List ℕ) (x a : A) (xs : List A) → gt (id a) (id x) ≡ true
    → NeverFalls id (a ∷ xs) → AllAbove id x (a ∷ xs)
all_above id x a [] h falls = (h, tt)
all_above id x a (b ∷ xs) h falls = (h, all_above id x b xs (gt_later (id a) (id b) (id x) h falls.0) falls.1)

merged_behind : {A : Type 0} (id : A → List ℕ) (x : A) (xs bs : List A) → AllAbove id x xs
    → merged_by id xs (x ∷ bs) ≡ x ∷ merged_by id xs bs
merged_behind id x [] bs h = refl
merged_behind id x (a ∷ xs) bs h =
    ap (placed_by id a) (merged_behind id x xs bs h.1) ∙ placed_behind id a x (merged_by id xs bs) h.0

-- an alert of the second list that is below the first of the first goes before both
pub merged_low : {A : Type 0} (id : A → List ℕ) (a b : A) (xs bs : List A) → NeverFalls id (a ∷ xs)
    → is_lt (bytes_cmp (id b) (id a)) ≡ true
    → merged_by id (a ∷ xs) (b ∷ bs) ≡ b ∷ merged_by id (a ∷ xs) bs
merged_low id a b xs bs falls h =
    merged_behind id b (a ∷ xs) bs (all_above id b a xs (sym (lt_gt (id b) (id a)) ∙ h) falls)

not_above : {A : Type 0} (id : A → List ℕ) (a : A) (bs : List A) → IsNotBelow id bs a → IsNotAbove id a bs
not_above id a [] h = tt
not_above id a (b ∷ bs) h = sym (lt_gt (id b) (id a)) ∙ h

-- else that of the first list does
pub merged_high : {A : Type 0} (id : A → List ℕ) (a : A) (xs bs : List A) → NeverFalls id (a ∷ xs) → IsNotBelow id bs a
    → merged_by id (a ∷ xs) bs ≡ a ∷ merged_by id xs bs
merged_high id a xs bs falls h =
    placed_front id a (merged_by id xs bs) (not_above_merged id a xs bs falls.1 falls.0 (not_above id a bs h))

pub merged_none : {A : Type 0} (id : A → List ℕ) (xs : List A) → NeverFalls id xs → merged_by id xs [] ≡ xs
merged_none id [] h = refl
merged_none id (a ∷ xs) h = ap (placed_by id a) (merged_none id xs h.1) ∙ placed_front id a xs h.0

-- ---- three lists

placed_swap : {A : Type 0} (id : A → List ℕ) (x y : A) (bs : List A) → gt (id x) (id y) ≡ true
    → placed_by id y (placed_by id x bs) ≡ placed_by id x (placed_by id y bs)
placed_swap id x y [] h =
    placed_front id y (x ∷ []) (gt_one_way (id x) (id y) h) ∙ sym (placed_behind id x y [] h)
placed_swap id x y (b ∷ bs) h = by (placed_swap id x y bs h) (either (gt (id y) (id b))) (either (gt (id x) (id b)))
  where
    by : placed_by id y (placed_by id x bs) ≡ placed_by id x (placed_by id y bs)
        → (gt (id y) (id b) ≡ true) ⊎ (gt (id y) (id b) ≡ false)
        → (gt (id x) (id b) ≡ true) ⊎ (gt (id x) (id b) ≡ false)
        → placed_by id y (placed_by id x (b ∷ bs)) ≡ placed_by id x (placed_by id y (b ∷ bs))
    by rest (inl above) (inl also) =
        ap (placed_by id y) (placed_behind id x b bs also) ∙ placed_behind id y b (placed_by id x bs) above
        ∙ ap (λ l. b ∷ l) rest
        ∙ sym (ap (placed_by id x) (placed_behind id y b bs above) ∙ placed_behind id x b (placed_by id y bs) also)
    by rest (inl above) (inr level) = let also : gt (id x) (id b) ≡ true = gt_gt (id x) (id y) (id b) h above in cc
    by rest (inr level) (inl above) =
        ap (placed_by id y) (placed_behind id x b bs above) ∙ placed_front id y (b ∷ placed_by id x bs) level
        ∙ ap (λ l. y ∷ l) (sym (placed_behind id x b bs above))
        ∙ sym (ap (placed_by id x) (placed_front id y (b ∷ bs) level) ∙ placed_behind id x y (b ∷ bs) h)
    by rest (inr level) (inr also) =
        ap (placed_by id y) (placed_front id x (b ∷ bs) also)
        ∙ placed_front id y (x ∷ b ∷ bs) (gt_one_way (id x) (id y) h)
        ∙ ap (λ l. y ∷ l) (sym (placed_front id x (b ∷ bs) also))
        ∙ sym (ap (placed_by id x) (placed_front id y (b ∷ bs) level) ∙ placed_behind id x y (b ∷ bs) h)

merged_placed : {A : Type 0} (id : A → List ℕ) (x : A) (xs bs : List A)
    → merged_by id (placed_by id x xs) bs ≡ placed_by id x (merged_by id xs bs)
merged_placed id x [] bs = refl
merged_placed id x (a ∷ xs) bs = by (merged_placed id x xs bs) (either (gt (id x) (id a)))
  where
    by : merged_by id (placed_by id x xs) bs ≡ placed_by id x (merged_by id xs bs)
        → (gt (id x) (id a) ≡ true) ⊎ (gt (id x) (id a) ≡ false)
        → merged_by id (placed_by id x (a ∷ xs)) bs ≡ placed_by id x (merged_by id (a ∷ xs) bs)
    by rest (inl above) = ap (λ l. merged_by id l bs) (placed_behind id x a xs above) ∙ ap (placed_by id a) rest
        ∙ placed_swap id x a (merged_by id xs bs) above
    by rest (inr level) = ap (λ l. merged_by id l bs) (placed_front id x (a ∷ xs) level)

pub merged_merged : {A : Type 0} (id : A → List ℕ) (xs bs cs : List A)
    → merged_by id (merged_by id xs bs) cs ≡ merged_by id xs (merged_by id bs cs)
merged_merged id [] bs cs = refl
merged_merged id (a ∷ xs) bs cs =
    merged_placed id a (merged_by id xs bs) cs ∙ ap (placed_by id a) (merged_merged id xs bs cs)

-- ---- many lists

pub merged_all_append : {A : Type 0} (id : A → List ℕ) (xs ys : List (List A))
    → merged_all id (xs ++ ys) ≡ merged_by id (merged_all id xs) (merged_all id ys)
merged_all_append id [] ys = refl
merged_all_append id (x ∷ xs) ys =
    ap (merged_by id x) (merged_all_append id xs ys) ∙ sym (merged_merged id x (merged_all id xs) (merged_all id ys))

pub never_all : {A : Type 0} (id : A → List ℕ) (xs : List (List A)) → NeverFalls id (merged_all id xs)
never_all id [] = tt
never_all id (x ∷ xs) = never_merged id x (merged_all id xs) (never_all id xs)
