-- Lists that are cut at two places, and mapped.
use Rattle.std.proofs.Common.{◌≡◌, ℕ, ◌≤◌, List, ◌++◌, map, length, take, drop, sym, ap, ◌∙◌, arith, Vec, Global}
use Rattle.std.proofs.lemmas.List.{map-append, take-append-drop, take_at, drop_at, take-take, take-map, drop-map}
use Rattle.std.proofs.lemmas.List.{length-take-le, length-map, drop-append-le, length-append}
use Rattle.clip_extract.specs.Keys.{KeyValue, key_of}
use Rattle.clip_extract.specs.declared.key.Key.{Key}

module _ {A B : Type 0} (f : A → B) where
  -- the front up to `start`, and what stands from `middle` on
  pub front_removed : (xs : List A) (start middle : ℕ) → start ≤ length xs
      → take start (map f (take start xs ++ drop middle xs)) ≡ take start (map f xs)
  front_removed xs start middle le =
      ap (take start) (map-append f (take start xs) (drop middle xs))
      ∙ take_at (map f (take start xs)) (map f (drop middle xs)) start (length-map (take start xs) f
      ∙ length-take-le start xs le)
      ∙ sym (take-map f start xs)

  pub rest_removed : (xs : List A) (start middle : ℕ) → start ≤ length xs
      → drop start (map f (take start xs ++ drop middle xs)) ≡ drop middle (map f xs)
  rest_removed xs start middle le =
      ap (drop start) (map-append f (take start xs) (drop middle xs))
      ∙ drop_at (map f (take start xs)) (map f (drop middle xs)) start (length-map (take start xs) f
      ∙ length-take-le start xs le)
      ∙ sym (drop-map f middle xs)

  pub front_cut : (xs : List A) (start middle : ℕ) → start ≤ middle → take start (map f (take middle xs))
      ≡ take start (map f xs)
  front_cut xs start middle le = ap (take start) (sym (take-map f middle xs)) ∙ take-take start middle (map f xs) le

  pub rest_cut : (xs : List A) (start middle : ℕ) → drop start (map f (take middle xs))
      ≡ drop start (take middle (map f xs))
  rest_cut xs start middle = ap (drop start) (sym (take-map f middle xs))

-- what stands from `start` on, in two parts
pub parts : {A : Type 0} (xs : List A) (start middle : ℕ) → start ≤ middle → middle ≤ length xs
    → drop start xs ≡ drop start (take middle xs) ++ drop middle xs
parts xs start middle low high =
    let whole = take-append-drop middle xs in
    let long : start ≤ length (take middle xs) = omega (arith, length-take-le middle xs high) in
    ap (drop start) (sym whole) ∙ drop-append-le start (take middle xs) (drop middle xs) long

-- keys that are added make no fewer
pub longer : (old new : Vec Key Global) (more : List KeyValue) → map key_of new.items ≡ map key_of old.items ++ more
    → old.len ≤ new.len
longer old new more is =
    omega (
      arith,
      ap length is,
      length-map new.items key_of,
      length-map old.items key_of,
      length-append (map key_of old.items) more,
    )
