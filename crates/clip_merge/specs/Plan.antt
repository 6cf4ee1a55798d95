-- Levels of segments, and which neighbours are merged next.
use Rattle.std.specs.Prelude.{◌≡◌, ℕ, ◌+◌, ◌-◌, ◌*◌, ◌<◌, ◌≤◌, ◌^◌, Bool, true, List, [], length, take, drop}
use Rattle.std.specs.Prelude.{slice_index_or}
use Rattle.std.specs.List.{All}
use Rattle.clip_indexed.specs.Segment.{all_entries}
use Rattle.clip_model.specs.History.{Registered}
use Rattle.clip_model.specs.declared.limits.TheConstants.{RUN_LENGTH}

-- The level of a length is how many divisions by the length of a run, rounding down, bring it below that: the least k
-- with the length below RUN_LENGTH ^ (k + 1).
pub record IsLevel (n level : ℕ) : Type 0 where
  pub below : n < RUN_LENGTH ^ (level + 1)
  pub least : (k : ℕ) → n < RUN_LENGTH ^ (k + 1) → level ≤ k

-- ---- runs

-- so many neighbours from this place on
abbrev pub neighbours : List (List Registered) → ℕ → ℕ → List (List Registered)
neighbours segments first count = take count (drop first segments)

-- the neighbours from this place on, as many as a run has
abbrev pub run_at : List (List Registered) → ℕ → List (List Registered)
run_at segments first = neighbours segments first RUN_LENGTH

-- There are so many neighbours from this place on, and they have one level.
pub record IsRun (segments : List (List Registered)) (first : ℕ) : Type 0 where
  pub level : ℕ
  pub there : first + RUN_LENGTH ≤ length segments
  pub levels : All (λ segment. IsLevel (length segment) level) (run_at segments first)

-- Here is a run, and nowhere before.
pub record IsOldestRun (segments : List (List Registered)) (first : ℕ) : Type 0 where
  pub run : IsRun segments first
  pub oldest : (k : ℕ) → k < first → IsRun segments k → ⊥

-- ---- rises

-- the segment at this place has the level
abbrev pub HasLevel : List (List Registered) → ℕ → ℕ → Type 0
HasLevel segments at level = IsLevel (length (slice_index_or segments at [])) level

-- Behind the segment at this place one has a higher level.
pub record IsRise (segments : List (List Registered)) (first : ℕ) : Type 0 where
  pub behind : ℕ
  pub after : first < behind
  pub there : behind < length segments
  pub low : ℕ
  pub high : ℕ
  pub low_level : HasLevel segments first low
  pub high_level : HasLevel segments behind high
  pub rises : low < high

-- Here is a rise, and nowhere before.
pub record IsOldestRise (segments : List (List Registered)) (first : ℕ) : Type 0 where
  pub rise : IsRise segments first
  pub oldest : (k : ℕ) → k < first → IsRise segments k → ⊥

-- ---- merge turns

-- A turn merges the neighbours from the one place on to before the other: the oldest run, or, where there is none, all
-- segments from the oldest rise on; and a turn to one segment all of several.
pub data IsTurn (to_one : Bool) (segments : List (List Registered)) (first past : ℕ) : Type 0 where
  run : IsOldestRun segments first → past ≡ first + RUN_LENGTH → IsTurn to_one segments first past
  rise : ((k : ℕ) → IsRun segments k → ⊥) → IsOldestRise segments first → past ≡ length segments
      → IsTurn to_one segments first past
  all : to_one ≡ true → 1 < length segments → first ≡ 0 → past ≡ length segments → IsTurn to_one segments first past

-- For each level up to that of all their entries together there are at most as many segments as make no run.
pub record AreFew (segments : List (List Registered)) : Type 0 where
  pub level : ℕ
  pub of_all : IsLevel (length (all_entries segments)) level
  pub few : length segments ≤ (RUN_LENGTH - 1) * (level + 1)
