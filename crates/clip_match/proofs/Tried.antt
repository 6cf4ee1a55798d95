-- The entries at positions that are tried one by one, and those of them that pass a test.
use Rattle.std.proofs.Common.{◌≡◌, ℕ, ◌+◌, ◌<◌, Bool, true, false, cond, List, [], ◌∷◌, ◌++◌, length, get_or, take}
use Rattle.std.proofs.Common.{filter, Option, None, Some, slice_get, option_to_list, refl, sym, ap, ◌∙◌}
use Rattle.std.proofs.lemmas.Grind.{flat_map-append}
use Rattle.std.proofs.lemmas.List.{append-nil, take_more}
use Rattle.std.proofs.lemmas.List.Elements.{filter-append}
use Rattle.clip_model.specs.History.{Registered}
use Rattle.clip_match.specs.Steps.Positions.{entries_at}

module _ (es : List Registered) (t : Registered → Bool) where
  -- the entry at a position passes the test or not
  abbrev Passes : ℕ → Bool → Type 0
  Passes p held = (e : Registered) → slice_get es p ≡ Some e → held ≡ t e

  no_entry : (b : Bool) (xs : List Registered) → xs ≡ [] → cond b xs [] ≡ []
  no_entry true xs none = none
  no_entry false xs none = refl

  one : (p : ℕ) (held : Bool) → Passes p held
      → filter t (option_to_list (slice_get es p)) ≡ cond held (option_to_list (slice_get es p)) []
  one p held passes = by_entry (slice_get es p) refl
    where
      by_entry : (o : Option Registered) → slice_get es p ≡ o
          → filter t (option_to_list o) ≡ cond held (option_to_list o) []
      by_entry None is = sym (no_entry held [] refl)
      by_entry (Some e) is = ap (λ b. cond b (e ∷ []) []) (sym (passes e is))

  pushed : (qs : List ℕ) (p : ℕ) → entries_at es (qs ++ p ∷ []) ≡ entries_at es qs ++ option_to_list (slice_get es p)
  pushed qs p =
      flat_map-append (λ n. option_to_list (slice_get es n)) qs (p ∷ [])
      ∙ ap (λ xs. entries_at es qs ++ xs) (append-nil (option_to_list (slice_get es p)))

  more : (ps : List ℕ) (i : ℕ) → i < length ps → filter t (entries_at es (take (i + 1) ps))
      ≡ filter t (entries_at es (take i ps)) ++ filter t (option_to_list (slice_get es (get_or ps i 0)))
  more ps i lt =
      ap (λ qs. filter t (entries_at es qs)) (take_more ps i 0 lt)
      ∙ ap (filter t) (pushed (take i ps) (get_or ps i 0))
      ∙ filter-append t (entries_at es (take i ps)) (option_to_list (slice_get es (get_or ps i 0)))

  -- a position whose entry does not pass
  pub left_out : (ps qs : List ℕ) (i : ℕ) → i < length ps → Passes (get_or ps i 0) false
      → entries_at es qs ≡ filter t (entries_at es (take i ps))
      → entries_at es qs ≡ filter t (entries_at es (take (i + 1) ps))
  left_out ps qs i lt fails are =
      are ∙ sym (append-nil (filter t (entries_at es (take i ps))))
      ∙ ap (λ xs. filter t (entries_at es (take i ps)) ++ xs) (sym (one (get_or ps i 0) false fails))
      ∙ sym (more ps i lt)

  -- one whose entry does
  pub taken_in : (ps qs : List ℕ) (i : ℕ) → i < length ps → Passes (get_or ps i 0) true
      → entries_at es qs ≡ filter t (entries_at es (take i ps))
      → entries_at es (qs ++ get_or ps i 0 ∷ []) ≡ filter t (entries_at es (take (i + 1) ps))
  taken_in ps qs i lt passes are =
      let p = get_or ps i 0 in
      pushed qs p ∙ ap (λ xs. xs ++ option_to_list (slice_get es p)) are
      ∙ ap (λ xs. filter t (entries_at es (take i ps)) ++ xs) (sym (one p true passes))
      ∙ sym (more ps i lt)
