-- How many plans are judged.
use Rattle.std.proofs.Common.{◌≡◌, ℕ, suc, ◌+◌, ◌≤◌, Bool, true, false, List, [], ◌∷◌, ◌++◌, length, filter, get_or}
use Rattle.std.proofs.Common.{Option, Some, None, option_to_list, refl, arith}
use Rattle.std.specs.List.{count_by, slice_get}
use Rattle.std.proofs.lemmas.Bool.{false≢true}
use Rattle.clip_pieces.specs.Marked.{marked_from}
use Rattle.clip_model.proofs.Filters.{filter_few}
use Rattle.clip_model.specs.History.{Registered}
use Rattle.clip_indexed.proofs.Flagged.{count_first}
use Rattle.clip_match.specs.Steps.Positions.{entries_at}

-- of marks that are among others there are no more
pub fewer_marked : (first : ℕ) (gs fs : List Bool) → length gs ≡ length fs
    → ((k : ℕ) → get_or gs k false ≡ true → get_or fs k false ≡ true)
    → length (marked_from first gs) ≤ count_by (λ flag. flag) fs
fewer_marked first [] fs same among = omega arith
fewer_marked first (g ∷ gs) [] same among = absurd (omega arith)
fewer_marked first (g ∷ gs) (f ∷ fs) same among =
    by_flags g f (among 0) (fewer_marked (first + 1) gs fs (omega arith) (λ k. among (suc k)))
  where
    by_flags : (g f : Bool) → (g ≡ true → f ≡ true)
        → length (marked_from (first + 1) gs) ≤ count_by (λ flag. flag) fs
        → length (marked_from first (g ∷ gs)) ≤ count_by (λ flag. flag) (f ∷ fs)
    by_flags true true set fewer = omega (arith, fewer, count_first true fs)
    by_flags true false set fewer = absurd (false≢true (set refl))
    by_flags false true set fewer = omega (arith, fewer, count_first true fs)
    by_flags false false set fewer = fewer

-- at most one entry stands at each position
entries_few : (es : List Registered) (ps : List ℕ) → length (entries_at es ps) ≤ length ps
entries_few es [] = omega arith
entries_few es (p ∷ ps) = by_entry (slice_get es p) (entries_few es ps)
  where
    by_entry : (o : Option Registered) → length (entries_at es ps) ≤ length ps
        → length (option_to_list o ++ entries_at es ps) ≤ length (p ∷ ps)
    by_entry (Some e) few = omega (arith, few)
    by_entry None few = omega (arith, few)

pub held_few : (p : Registered → Bool) (es : List Registered) (ps : List ℕ)
    → length (filter p (entries_at es ps)) ≤ length ps
held_few p es ps = omega (arith, filter_few p (entries_at es ps), entries_few es ps)
