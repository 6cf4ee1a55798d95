-- Marks of a segment's entries.
use Rattle.std.proofs.Common.{◌≡◌, ℕ, suc, ◌+◌, Bool, true, false, cond, ◌&&◌, List, [], ◌∷◌, ◌++◌, length, map, filter}
use Rattle.std.proofs.Common.{get_or, Some, slice_get, option_to_list, refl, sym, ap, ◌∙◌, arith}
use Rattle.std.specs.List.{count_by}
use Rattle.std.proofs.Math.Bool.{and_comm}
use Rattle.std.proofs.lemmas.List.{length-append, length-map, append_assoc}
use Rattle.std.proofs.lemmas.List.Sums.{length-filter}
use Rattle.clip_pieces.specs.Marked.{both, marked, marked_from}
use Rattle.clip_extract.specs.Keys.{KeyValue}
use Rattle.clip_model.specs.History.{History, Registered, is_live}
use Rattle.clip_match.specs.Steps.Positions.{entries_at, has_one, live_with}
use Rattle.clip_match.proofs.Positions.{got}

-- ---- the entries that are marked

-- those of the entries whose flag is set
abbrev pub picked : List Bool → List Registered → List Registered
picked [] es = []
picked (flag ∷ flags) [] = []
picked (flag ∷ flags) (e ∷ es) = cond flag (e ∷ picked flags es) (picked flags es)

picked_from : (all front : List Registered) (flags : List Bool) (es : List Registered) → all ≡ front ++ es
    → length flags ≡ length es → entries_at all (marked_from (length front) flags) ≡ picked flags es
picked_from all front [] es is long = refl
picked_from all front (flag ∷ flags) [] is long = absurd (omega arith)
picked_from all front (flag ∷ flags) (e ∷ es) is long =
    let on : length (front ++ e ∷ []) ≡ length front + 1 = length-append front (e ∷ []) in
    let later = picked_from all (front ++ e ∷ []) flags es (is ∙ sym (append_assoc front (e ∷ []) es)) (omega arith) in
    let here : slice_get all (length front) ≡ Some e = ap (λ xs. slice_get xs (length front)) is ∙ got front e es in
    by_flag flag here (ap (λ n. entries_at all (marked_from n flags)) (sym on) ∙ later)
  where
    by_flag : (f : Bool) → slice_get all (length front) ≡ Some e
        → entries_at all (marked_from (length front + 1) flags) ≡ picked flags es
        → entries_at all (marked_from (length front) (f ∷ flags)) ≡ picked (f ∷ flags) (e ∷ es)
    by_flag true here rest = ap (λ o. option_to_list o ++ entries_at all (marked_from (length front + 1) flags)) here
        ∙ ap (λ xs. e ∷ xs) rest
    by_flag false here rest = rest

pub marked_entries : (flags : List Bool) (es : List Registered) → length flags ≡ length es
    → entries_at es (marked flags) ≡ picked flags es
marked_entries flags es long = picked_from es [] flags es refl long

picked_test : (t : Registered → Bool) (es : List Registered) → picked (map t es) es ≡ filter t es
picked_test t [] = refl
picked_test t (e ∷ es) = ap (λ xs. cond (t e) (e ∷ xs) xs) (picked_test t es)

-- of marks that differ only where a test fails as many pass it
pub picked_held : (p : Registered → Bool) (fs gs : List Bool) (es : List Registered) → length fs ≡ length es
    → length gs ≡ length es
    → ((k : ℕ) (e : Registered) → slice_get es k ≡ Some e → p e ≡ true → get_or gs k false ≡ get_or fs k false)
    → filter p (picked gs es) ≡ filter p (picked fs es)
picked_held p [] [] es long same alike = refl
picked_held p [] (g ∷ gs) [] long same alike = refl
picked_held p (f ∷ fs) [] [] long same alike = refl
picked_held p (f ∷ fs) (g ∷ gs) [] long same alike = refl
picked_held p [] (g ∷ gs) (e ∷ es) long same alike = absurd (omega arith)
picked_held p (f ∷ fs) [] (e ∷ es) long same alike = absurd (omega arith)
picked_held p (f ∷ fs) (g ∷ gs) (e ∷ es) long same alike =
    by_test (p e) refl (picked_held p fs gs es (omega arith) (omega arith) (λ k. alike (suc k)))
  where
    xs : List Registered
    xs = picked gs es

    ys : List Registered
    ys = picked fs es

    kept : (flag : Bool) → filter p xs ≡ filter p ys → filter p (cond flag (e ∷ xs) xs)
        ≡ filter p (cond flag (e ∷ ys) ys)
    kept true rest = ap (λ zs. cond (p e) (e ∷ zs) zs) rest
    kept false rest = rest

    left : (zs : List Registered) (flag : Bool) → p e ≡ false → filter p (cond flag (e ∷ zs) zs) ≡ filter p zs
    left zs true fails = ap (λ b. cond b (e ∷ filter p zs) (filter p zs)) fails
    left zs false fails = refl

    by_test : (b : Bool) → p e ≡ b → filter p xs ≡ filter p ys → filter p (cond g (e ∷ xs) xs)
        ≡ filter p (cond f (e ∷ ys) ys)
    by_test true passes rest = ap (λ flag. filter p (cond flag (e ∷ xs) xs)) (alike 0 e refl passes) ∙ kept f rest
    by_test false fails rest = left xs g fails ∙ rest ∙ sym (left ys f fails)

-- ---- those that are live and share a key

both_tests : (s t : Registered → Bool) (es : List Registered) → both (map s es) (map t es) ≡ map (λ e. s e && t e) es
both_tests s t [] = refl
both_tests s t (e ∷ es) = ap (λ bs. (s e && t e) ∷ bs) (both_tests s t es)

set_tests : (t : Registered → Bool) (es : List Registered) → length (filter (λ flag. flag) (map t es))
    ≡ length (filter t es)
set_tests t [] = refl
set_tests t (e ∷ es) = by_test (t e) (set_tests t es)
  where
    by_test : (b : Bool) → length (filter (λ flag. flag) (map t es)) ≡ length (filter t es)
        → length (filter (λ flag. flag) (b ∷ map t es)) ≡ length (cond b (e ∷ filter t es) (filter t es))
    by_test true same = ap suc same
    by_test false same = same

module _ (h : History) (ks : List KeyValue) (es : List Registered) where
  abbrev pub candidate : Registered → Bool
  candidate r = is_live h r.seq && has_one ks r

  pub live_sharers : both (map (has_one ks) es) (map (λ r. is_live h r.seq) es) ≡ map candidate es
  live_sharers = both_tests (has_one ks) (λ r. is_live h r.seq) es
      ∙ (λ i. map (λ r. and_comm (has_one ks r) (is_live h r.seq) i) es)

  pub counted : count_by (λ flag. flag) (map candidate es) ≡ length (live_with h ks es)
  counted = sym (length-filter (λ flag. flag) (map candidate es)) ∙ set_tests candidate es

  -- of marks that differ only where a test fails
  pub held_among : (p : Registered → Bool) (marks : List Bool) → length marks ≡ length (map candidate es)
      → ((k : ℕ) (e : Registered) → slice_get es k ≡ Some e → p e ≡ true
      → get_or marks k false ≡ get_or (map candidate es) k false)
      → filter p (entries_at es (marked marks)) ≡ filter p (live_with h ks es)
  held_among p marks same alike =
      let long = length-map es candidate in
      ap (filter p) (marked_entries marks es (same ∙ long))
      ∙ picked_held p (map candidate es) marks es long (same ∙ long) alike
      ∙ ap (filter p) (picked_test candidate es)
