-- Runs of four neighbouring segments of one level.
use Rattle.std.proofs.Common.{◌≡◌, ℕ, ◌+◌, ◌-◌, ◌<◌, ◌≤◌, List, [], length, get_or, map, take, drop, ap, sym, ◌∙◌}
use Rattle.std.proofs.Common.{subst, arith, below_more, length-take, length-drop, inl, inr}
use Rattle.std.proofs.lemmas.Bool.{cases_lt}
use Rattle.std.proofs.lemmas.List.{get_or-drop, get_or-map, get_or-take}
use Rattle.std.proofs.lemmas.List.Elements.{All-get_or, All-from_get_or}
use Rattle.clip_model.specs.History.{Registered}
use Rattle.clip_model.specs.declared.limits.TheConstants.{RUN_LENGTH}
use Rattle.clip_merge.specs.Plan.{HasLevel, IsLevel, IsRun, IsOldestRun, run_at}
use Rattle.clip_merge.proofs.Division.{one_level}

-- Before this place stand so many neighbours of one level and no more, and no run.
pub record Walked (segments : List (List Registered)) (at count level : ℕ) : Type 0 where
  pub few : count < RUN_LENGTH
  pub within : count ≤ at
  pub some : 0 < at → 0 < count
  pub same : (k : ℕ) → k < at → at ≤ k + count → HasLevel segments k level
  pub apart : (k : ℕ) → k + count + 1 ≡ at → HasLevel segments k level → ⊥
  pub none : (k : ℕ) → k + RUN_LENGTH ≤ at → IsRun segments k → ⊥

-- the level of a segment that stands at a place
pub level_at : {X : Type 0} (entries_of : X → List Registered) (segments : List X) (at : ℕ) (segment : X) (n level : ℕ)
    → at < length segments → segment ≡ get_or segments at segment
    → n ≡ length (entries_of segment) → IsLevel n level → HasLevel (map entries_of segments) at level
level_at entries_of segments at segment n level inside is len has =
    subst (λ m. IsLevel m level) (len ∙ ap (λ s. length (entries_of s)) is
    ∙ ap length (sym (get_or-map entries_of segments at segment [] inside))) has

module _ (segments : List (List Registered)) where
  -- each of a run's segments has its level
  run_level : (first : ℕ) (run : IsRun segments first) (k : ℕ) → k < RUN_LENGTH
      → HasLevel segments (first + k) run.level
  run_level first run k lt =
      let there = run.there in
      let inside : k < length (take RUN_LENGTH (drop first segments)) =
      omega (arith, length-take RUN_LENGTH (drop first segments), length-drop first segments) in
      rw (get_or-take, get_or-drop) at
      (All-get_or (λ segment. IsLevel (length segment) run.level) (run_at segments first) k [] inside run.levels)

  -- four neighbours of one level are a run
  pub run_of : (first level : ℕ) → first + RUN_LENGTH ≤ length segments
      → ((k : ℕ) → k < RUN_LENGTH → HasLevel segments (first + k) level) → IsRun segments first
  run_of first level there each = record {
    level = level;
    there = there;
    levels = All-from_get_or (λ segment. IsLevel (length segment) level) (run_at segments first) [] (λ k inside.
        let lt : k < RUN_LENGTH = omega (arith, length-take RUN_LENGTH (drop first segments)) in
        rw (get_or-take, get_or-drop) (each k lt));
  }

  -- no run ends with a segment whose level fewer than four neighbours have
  none_more : (at count level : ℕ) → 0 < count → count < RUN_LENGTH
      → ((k : ℕ) → k + RUN_LENGTH ≤ at → IsRun segments k → ⊥) → HasLevel segments at level
      → ((k : ℕ) → k + count ≡ at → HasLevel segments k level → ⊥) → (k : ℕ) → k + RUN_LENGTH ≤ at + 1
      → IsRun segments k → ⊥
  none_more at count level some few none here apart k le run = elim (cases_lt (k + 3) at) [
    | inl earlier ↦ none k (omega arith) run
    | inr last ↦
        let e : k + 3 ≡ at = omega arith in
        let own : HasLevel segments at run.level =
        subst (λ i. HasLevel segments i run.level) e (run_level k run 3 (omega arith)) in
        let same : run.level ≡ level = one_level (length (get_or segments at [])) run.level level own here in
        apart (k + (3 - count)) (omega arith)
        (subst (HasLevel segments (k + (3 - count))) same (run_level k run (3 - count) (omega arith)))
  ]

  -- before the first segment
  pub walked_none : Walked segments 0 0 0
  walked_none = record {
    few = omega arith;
    within = omega arith;
    some = λ h. omega arith;
    same = λ k lt le. absurd (omega arith);
    apart = λ k e has. omega arith;
    none = λ k le run. omega arith;
  }

  -- one neighbour more of that level
  pub walked_alike : (at count level : ℕ) → Walked segments at count level → count + 1 < RUN_LENGTH
      → HasLevel segments at level → Walked segments (at + 1) (count + 1) level
  walked_alike at count level is few here = record {
    few = few;
    within = let h = is.within in omega arith;
    some = λ h. omega arith;
    same = below_more (λ k. at + 1 ≤ k + (count + 1)
        → HasLevel segments k level) at (λ k lt le. is.same k lt (omega arith)) (λ le. here);
    apart = λ k e has. is.apart k (omega arith) has;
    none = none_more at (count + 1) level (omega arith) few is.none here (λ k e has. is.apart k (omega arith) has);
  }

  -- a segment of another level
  pub walked_other : (at count level other : ℕ) → Walked segments at count level → HasLevel segments at other
      → (other ≡ level → ⊥) → Walked segments (at + 1) 1 other
  walked_other at count level other is here differs =
      let before : (k : ℕ) → k + 1 ≡ at → HasLevel segments k other → ⊥ = λ k e has.
      let some = is.some (omega arith) in
      differs (one_level (length (get_or segments k [])) other level has (is.same k (omega arith) (omega arith))) in
      record {
        few = omega arith;
        within = omega arith;
        some = λ h. omega arith;
        same = below_more (λ k. at + 1 ≤ k + 1 → HasLevel segments k other) at (λ k lt le. absurd (omega arith))
            (λ le. here);
        apart = λ k e has. before k (omega arith) has;
        none = none_more at 1 other (omega arith) (omega arith) is.none here before;
      }

  -- a fourth neighbour of that level
  pub walked_found : (at count level first : ℕ) → Walked segments at count level → count ≡ 3 → first + 3 ≡ at
      → at < length segments → HasLevel segments at level → IsOldestRun segments first
  walked_found at count level first is three place inside here = record {
    run = run_of first level (omega arith) (λ k lt. below_more (λ j. at ≤ j + count
        → HasLevel segments j level) at is.same (λ le. here) (first + k) (omega arith) (omega arith));
    oldest = λ k lt. is.none k (omega arith);
  }
