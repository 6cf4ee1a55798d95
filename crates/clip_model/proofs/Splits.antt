-- Where a history with one entry more is split.
use Rattle.std.proofs.Common.{◌≡◌, ◌⊎◌, List, [], ◌∷◌, ◌++◌, refl, ap, inl, inr}

module _ {A : Type 0} where
  -- the entry behind a split is the last, or it stands before the last
  pub entry_split : (xs before after : List A) (x y : A) → xs ++ x ∷ [] ≡ before ++ y ∷ after
      → ((xs ≡ before) × (x ≡ y)) ⊎ ((rest : List A) × (xs ≡ before ++ y ∷ rest))
  entry_split [] [] after x y h = let e : x ≡ y = cc in inl (refl, e)
  entry_split [] (b ∷ []) after x y h = cc
  entry_split [] (b ∷ c ∷ bs) after x y h = cc
  entry_split (z ∷ xs) [] after x y h = let e : z ≡ y = cc in inr (xs, ap (λ w. w ∷ xs) e)
  entry_split (z ∷ xs) (b ∷ bs) after x y h =
      let e : z ≡ b = cc in
      let t : xs ++ x ∷ [] ≡ bs ++ y ∷ after = cc in
      elim (entry_split xs bs after x y t) [
        | inl same ↦ let f : z ∷ xs ≡ b ∷ bs = cc (same.0) in inl (f, same.1)
        | inr (rest, same) ↦ let f : z ∷ xs ≡ b ∷ (bs ++ y ∷ rest) = cc in inr (rest, f)
      ]

  -- a front is the whole, or it stops before the last
  pub front_split : (xs before after : List A) (x : A) → xs ++ x ∷ [] ≡ before ++ after
      → (before ≡ xs ++ x ∷ []) ⊎ ((rest : List A) × (xs ≡ before ++ rest))
  front_split xs [] after x h = inr (xs, refl)
  front_split [] (b ∷ []) after x h = let e : b ∷ [] ≡ x ∷ [] = cc in inl e
  front_split [] (b ∷ c ∷ bs) after x h = cc
  front_split (z ∷ xs) (b ∷ bs) after x h =
      let e : z ≡ b = cc in
      let t : xs ++ x ∷ [] ≡ bs ++ after = cc in
      elim (front_split xs bs after x t) [
        | inl same ↦ let f : b ∷ bs ≡ z ∷ (xs ++ x ∷ []) = cc in inl f
        | inr (rest, same) ↦ let f : z ∷ xs ≡ b ∷ (bs ++ rest) = cc in inr (rest, f)
      ]
