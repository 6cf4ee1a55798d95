-- Lists that lie one after another, by where each ends.
use Rattle.std.proofs.Common.{◌≡◌, ℕ, zero, suc, ◌+◌, ◌-◌, ◌<◌, ◌≤◌, List, [], ◌∷◌, ◌++◌, length, get_or, slice_get}
use Rattle.std.proofs.Common.{take, drop, Some, unwrap_or, refl, sym, ap, ◌∙◌, arith, length-append}
use Rattle.std.proofs.Common.{length-drop}
use Rattle.std.proofs.Math.Seq.{drop-append_seam}
use Rattle.std.proofs.lemmas.List.{take_all, take_at, take-append-le, drop-append-le}
use Rattle.std.proofs.lemmas.Option.{slice_get_past}
use Rattle.clip_words.specs.Packed.{cut, AreEnds}

items_left : (list items all : ℕ) → all ≡ items + list → all - list ≡ items
items_left list items all is = omega arith

module _ {A : Type 0} where
  pub length-cut : (start : ℕ) (ends : List ℕ) (items : List A) → length (cut start ends items) ≡ length ends
  length-cut start [] items = refl
  length-cut start (end ∷ ends) items = omega (arith, length-cut end ends items)

  get_cut : (start : ℕ) (ends : List ℕ) (items : List A) (place : ℕ) → place < length ends
      → slice_get (cut start ends items) place
      ≡ Some (take (get_or ends place 0 - get_or (start ∷ ends) place 0)
      (drop (get_or (start ∷ ends) place 0) items))
  get_cut start [] items place h = absurd (omega arith)
  get_cut start (end ∷ ends) items zero h = refl
  get_cut start (end ∷ ends) items (suc place) h = get_cut end ends items place (omega arith)

  -- the list at a place, and the one past the last
  pub list_cut : (start : ℕ) (ends : List ℕ) (items : List A) (place : ℕ) → place < length ends
      → take (get_or ends place 0 - get_or (start ∷ ends) place 0) (drop (get_or (start ∷ ends) place 0) items)
      ≡ unwrap_or (slice_get (cut start ends items) place) []
  list_cut start ends items place h = sym (ap (λ found. unwrap_or found []) (get_cut start ends items place h))

  pub past_cut : (start : ℕ) (ends : List ℕ) (items : List A) (place : ℕ) → length ends ≤ place
      → [] ≡ unwrap_or (slice_get (cut start ends items) place) []
  past_cut start ends items place h =
      sym (ap (λ found. unwrap_or found [])
      (slice_get_past (cut start ends items) place (omega (arith, length-cut start ends items))))

  starts_within : (start : ℕ) (ends : List ℕ) (items : List A) → AreEnds start ends items → start ≤ length items
  starts_within start [] items e = omega arith
  starts_within start (end ∷ ends) items e = omega (arith, starts_within end ends items e.1)

  -- a list's end lies behind its start, and within the items
  pub ends_within : (start : ℕ) (ends : List ℕ) (items : List A) (place : ℕ) → AreEnds start ends items
      → place < length ends
      → (get_or (start ∷ ends) place 0 ≤ get_or ends place 0) × (get_or ends place 0 ≤ length items)
  ends_within start [] items place e h = absurd (omega arith)
  ends_within start (end ∷ ends) items zero e h = (e.0, starts_within end ends items e.1)
  ends_within start (end ∷ ends) items (suc place) e h = ends_within end ends items place e.1 (omega arith)

  -- the items where a list behind them is cut off again
  pub cut_off : (items list all left : List A) (few many : ℕ) → few ≡ length items → many ≡ few + length list
      → all ≡ items ++ list → left ≡ take (many - length list) all
      → left ≡ items
  cut_off items list all left few many fits more is off =
      off ∙ ap (λ n. take n all) (items_left (length list) few many more ∙ fits) ∙ ap (take (length items)) is
      ∙ take_at items list (length items) refl

  -- one list more
  pub pushed_ends : (start : ℕ) (ends : List ℕ) (items list : List A) (end : ℕ) → end ≡ length (items ++ list)
      → AreEnds start ends items
      → AreEnds start (ends ++ end ∷ []) (items ++ list)
  pushed_ends start [] items list end is e = (omega (arith, length-append items list), is)
  pushed_ends start (next ∷ ends) items list end is e = (e.0, pushed_ends next ends items list end is e.1)

  last_cut : (start : ℕ) (items list : List A) (end : ℕ) → end ≡ length (items ++ list) → start ≡ length items
      → take (end - start) (drop start (items ++ list)) ≡ list
  last_cut start items list end is e =
      ap (λ k. take (end - start) (drop k (items ++ list))) e ∙ ap (take (end - start)) (drop-append_seam items list)
      ∙ take_all (end - start) list (omega (arith, length-append items list))

  first_cut : (start end : ℕ) (items list : List A) → start ≤ end → end ≤ length items
      → take (end - start) (drop start (items ++ list)) ≡ take (end - start) (drop start items)
  first_cut start end items list low high =
      ap (take (end - start)) (drop-append-le start items list (omega arith))
      ∙ take-append-le (end - start) (drop start items) list (omega (arith, length-drop start items))

  pub pushed_cut : (start : ℕ) (ends : List ℕ) (items list : List A) (end : ℕ) → end ≡ length (items ++ list)
      → AreEnds start ends items
      → cut start (ends ++ end ∷ []) (items ++ list) ≡ cut start ends items ++ list ∷ []
  pushed_cut start [] items list end is e = ap (λ last. last ∷ []) (last_cut start items list end is e)
  pushed_cut start (next ∷ ends) items list end is e =
      ap (λ first. first ∷ cut next (ends ++ end ∷ []) (items ++ list))
      (first_cut start next items list e.0 (starts_within next ends items e.1))
      ∙ ap (λ others. take (next - start) (drop start items) ∷ others) (pushed_cut next ends items list end is e.1)
