-- Lists that are read as others, and then merged.
use Rattle.std.proofs.Common.{◌≡◌, ℕ, List, [], ◌∷◌, map, refl, ap, ◌∙◌}
use Rattle.std.specs.FinMap.Entries.{by_order}
use Rattle.std.specs.declared.cmp.Ordering.{Ordering}
use Rattle.std.specs.declared.cmp.Ordering.TheVariants.{Less, Equal, Greater}
use Rattle.clip_words.specs.Order.{bytes_cmp}
use Rattle.clip_gather.specs.Merged.{NeverFalls, NoneFalls, placed_by, merged_by, merged_all}

by_order_map : {X Y : Type 0} (f : X → Y) (o : Ordering) (x y : X) → f (by_order o x x y) ≡ by_order o (f x) (f x) (f y)
by_order_map f Less x y = refl
by_order_map f Equal x y = refl
by_order_map f Greater x y = refl

placed_map : {A B : Type 0} (f : A → B) (id : B → List ℕ) (a : A) (bs : List A)
    → map f (placed_by (λ a. id (f a)) a bs) ≡ placed_by id (f a) (map f bs)
placed_map f id a [] = refl
placed_map f id a (b ∷ bs) =
    by_order_map (map f) (bytes_cmp (id (f a)) (id (f b))) (a ∷ b ∷ bs) (b ∷ placed_by (λ a. id (f a)) a bs)
    ∙ ap (λ l. by_order (bytes_cmp (id (f a)) (id (f b))) (f a ∷ f b ∷ map f bs) (f a ∷ f b ∷ map f bs) (f b ∷ l))
    (placed_map f id a bs)

pub merged_map : {A B : Type 0} (f : A → B) (id : B → List ℕ) (xs bs : List A)
    → map f (merged_by (λ a. id (f a)) xs bs) ≡ merged_by id (map f xs) (map f bs)
merged_map f id [] bs = refl
merged_map f id (x ∷ xs) bs =
    placed_map f id x (merged_by (λ a. id (f a)) xs bs) ∙ ap (placed_by id (f x)) (merged_map f id xs bs)

pub merged_all_map : {A B : Type 0} (f : A → B) (id : B → List ℕ) (lists : List (List A))
    → map f (merged_all (λ a. id (f a)) lists) ≡ merged_all id (map (map f) lists)
merged_all_map f id [] = refl
merged_all_map f id (l ∷ lists) =
    merged_map f id l (merged_all (λ a. id (f a)) lists) ∙ ap (merged_by id (map f l)) (merged_all_map f id lists)

pub never_map : {A B : Type 0} (f : A → B) (id : B → List ℕ) (xs : List A) → NeverFalls id (map f xs)
    → NeverFalls (λ a. id (f a)) xs
never_map f id [] h = tt
never_map f id (a ∷ []) h = (tt, tt)
never_map f id (a ∷ b ∷ xs) h = (h.0, never_map f id (b ∷ xs) h.1)

pub map_never : {A B : Type 0} (f : A → B) (id : B → List ℕ) (xs : List A) → NeverFalls (λ a. id (f a)) xs
    → NeverFalls id (map f xs)
map_never f id [] h = tt
map_never f id (a ∷ []) h = (tt, tt)
map_never f id (a ∷ b ∷ xs) h = (h.0, map_never f id (b ∷ xs) h.1)

pub none_map : {A B : Type 0} (f : A → B) (id : B → List ℕ) (lists : List (List A)) → NoneFalls id (map (map f) lists)
    → NoneFalls (λ a. id (f a)) lists
none_map f id [] h = tt
none_map f id (l ∷ lists) h = (never_map f id l h.0, none_map f id lists h.1)
