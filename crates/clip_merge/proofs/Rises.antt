-- Segments behind which one has a higher level.
use Rattle.std.proofs.Common.{◌≡◌, ℕ, suc, zero, ◌+◌, ◌*◌, ◌<◌, ◌≤◌, ◌^◌, List, [], ◌∷◌, length, get_or, ap, subst}
use Rattle.std.proofs.Common.{arith, below_more, length-append, inl, inr}
use Rattle.std.proofs.lemmas.Bool.{cases_lt}
use Rattle.std.proofs.Math.Nat.{pow-suc}
use Rattle.std.specs.Prelude.{Option, Some, None, IfSome}
use Rattle.clip_indexed.specs.Segment.{all_entries}
use Rattle.clip_model.specs.History.{Registered}
use Rattle.clip_model.specs.declared.limits.TheConstants.{RUN_LENGTH}
use Rattle.clip_merge.specs.Plan.{AreFew, HasLevel, IsLevel, IsOldestRise, IsRise, IsRun}
use Rattle.clip_merge.proofs.Division.{one_level}
use Rattle.clip_merge.proofs.Runs.{run_of}

-- ---- the oldest rise

-- one of the segments from this place on has the level
pub record Reached (segments : List (List Registered)) (from level : ℕ) : Type 0 where
  pub at : ℕ
  pub after : from ≤ at
  pub there : at < length segments
  pub has : HasLevel segments at level

-- From this place on the highest level is this one, and the oldest rise is here.
pub record Seen (segments : List (List Registered)) (from highest : ℕ) (oldest : Option ℕ) : Type 0 where
  pub bound : (k level : ℕ) → from ≤ k → k < length segments → HasLevel segments k level → level ≤ highest
  pub reached : 0 < highest → Reached segments from highest
  pub rise : IfSome oldest (IsRise segments)
  pub first : IfSome oldest (λ first. (k : ℕ) → from ≤ k → k < first → IsRise segments k → ⊥)
  pub none : oldest ≡ None → (k : ℕ) → from ≤ k → IsRise segments k → ⊥

module _ (segments : List (List Registered)) where
  -- behind the last segment
  pub seen_none : Seen segments (length segments) 0 None
  seen_none = record {
    bound = λ k level after inside has. absurd (omega arith);
    reached = λ h. absurd (omega arith);
    rise = tt;
    first = tt;
    none = λ _ k after rise. let a = rise.after in let b = rise.there in absurd (omega arith);
  }

  -- a segment with a level below the highest is a rise
  pub seen_lower : (at next highest here : ℕ) (oldest : Option ℕ) → next ≡ at + 1 → HasLevel segments at here
      → here < highest → Seen segments next highest oldest → Seen segments at highest (Some at)
  seen_lower at next highest here oldest e has low seen =
      let top = seen.reached (omega arith) in
      let after = top.after in
      record {
        bound = λ k level from inside other. elim (cases_lt at k) [
          | inl later ↦ seen.bound k level (omega arith) inside other
          | inr same ↦
              let is : k ≡ at = omega arith in
              let equal = one_level (length (get_or segments at [])) level here
              (subst (λ i. HasLevel segments i level) is other) has in
              omega arith
        ];
        reached = λ _. record { at = top.at; after = omega arith; there = top.there; has = top.has };
        rise = record {
          behind = top.at;
          after = omega arith;
          there = top.there;
          low = here;
          high =
              highest;
          low_level = has;
          high_level = top.has;
          rises = low;
        };
        first = λ k from before rise. absurd (omega arith);
        none = λ h. cc h;
      }

  -- a segment with the highest level is none
  not_here : (at next highest here : ℕ) (oldest : Option ℕ) → next ≡ at + 1 → HasLevel segments at here
      → highest ≤ here → Seen segments next highest oldest → IsRise segments at → ⊥
  not_here at next highest here oldest e has high seen rise =
      let after = rise.after in
      let within = seen.bound rise.behind rise.high (omega arith) rise.there rise.high_level in
      let same = one_level (length (get_or segments at [])) rise.low here rise.low_level has in
      let rises = rise.rises in
      omega arith

  pub seen_higher : (at next highest here : ℕ) (oldest : Option ℕ) → next ≡ at + 1 → at < length segments
      → HasLevel segments at here → highest ≤ here → Seen segments next highest oldest → Seen segments at here oldest
  seen_higher at next highest here oldest e inside has high seen = record {
    bound = λ k level from within other. elim (cases_lt at k) [
      | inl later ↦ let low = seen.bound k level (omega arith) within other in omega arith
      | inr same ↦
          let is : k ≡ at = omega arith in
          let equal = one_level (length (get_or segments at [])) level here
          (subst (λ i. HasLevel segments i level) is other) has in
          omega arith
    ];
    reached = λ _. record { at = at; after = omega arith; there = inside; has = has };
    rise = seen.rise;
    first = first_of oldest seen.first;
    none = λ is k from rise. elim (cases_lt at k) [
      | inl later ↦ seen.none is k (omega arith) rise
      | inr same ↦ let i : k ≡ at = omega arith in
          not_here at next highest here oldest e has high seen (subst (IsRise segments) i rise)
    ];
  } where
    first_of : (found : Option ℕ) → IfSome found (λ first. (k : ℕ) → next ≤ k → k < first → IsRise segments k → ⊥)
        → IfSome found (λ first. (k : ℕ) → at ≤ k → k < first → IsRise segments k → ⊥)
    first_of None h = h
    first_of (Some first) h = λ k from before rise. elim (cases_lt at k) [
      | inl later ↦ h k (omega arith) before rise
      | inr same ↦ let i : k ≡ at = omega arith in
          not_here at next highest here oldest e has high seen (subst (IsRise segments) i rise)
    ]

  -- at the first segment
  pub seen_all : (at highest : ℕ) (oldest : Option ℕ) → at ≡ 0 → Seen segments at highest oldest
      → IfSome oldest (IsOldestRise segments)
  seen_all at highest None e seen = tt
  seen_all at highest (Some first) e seen =
      record { rise = seen.rise; oldest = λ k before rise. seen.first k (omega arith) before rise }

-- ---- few segments

-- a power of RUN_LENGTH is above its exponent
exponent_below : (k : ℕ) → k < RUN_LENGTH ^ k
exponent_below zero = omega arith
exponent_below (suc k) = let before = exponent_below k in let more = pow-suc RUN_LENGTH k in omega arith

-- the least level from this one on
level_from : (n fuel level : ℕ) → n < RUN_LENGTH ^ (level + fuel + 1)
    → ((k : ℕ) → k < level → RUN_LENGTH ^ (k + 1) ≤ n) → (l : ℕ) × IsLevel n l
level_from n zero level below above = (
  level,
  record {
    below = let e : level + 0 + 1 ≡ level + 1 = omega arith in subst (λ k. n < RUN_LENGTH ^ k) e below;
    least = λ k lt. elim (cases_lt k level) [
      | inl less ↦ let high = above k less in absurd (omega arith)
      | inr enough ↦
          enough
    ];
  },
)
level_from n (suc fuel) level below above = elim (cases_lt n (RUN_LENGTH ^ (level + 1))) [
  | inl here ↦ (
    level,
    record {
      below = here;
      least = λ k lt. elim (cases_lt k level) [
        | inl less ↦ let high = above k less in
            absurd (omega arith)
        | inr enough ↦ enough
      ];
    },
  )
  | inr higher ↦
      let e : level + suc fuel + 1 ≡ level + 1 + fuel + 1 = omega arith in
      level_from n fuel (level + 1) (subst (λ k. n < RUN_LENGTH ^ k) e below)
      (below_more (λ k. RUN_LENGTH ^ (k + 1) ≤ n) level above higher)
]

-- each length has a level
pub level_of : (n : ℕ) → (l : ℕ) × IsLevel n l
level_of n = level_from n n 0 (let high = exponent_below (0 + n + 1) in omega arith) (λ k lt. absurd (omega arith))

-- and the longer one has no lower level
pub higher_of : (m n low high : ℕ) → m ≤ n → IsLevel m low → IsLevel n high → low ≤ high
higher_of m n low high le short long = short.least high (let below = long.below in omega arith)

-- levels that fall at least once within three steps end soon
falls : (level : ℕ → ℕ) (len : ℕ) → ((i j : ℕ) → i ≤ j → j < len → level j ≤ level i)
    → ((i j : ℕ) → j ≡ i + 3 → j < len → level i ≡ level j → ⊥) → (k at : ℕ) → at ≡ 3 * k → at < len
    → level at + k ≤ level 0
falls level len down four zero at e inside = let same : level at ≡ level 0 = ap level e in omega arith
falls level len down four (suc k) at e inside =
    let before = falls level len down four k (3 * k) (omega arith) (omega arith) in
    let low = down (3 * k) at (omega arith) inside in
    elim (cases_lt (level at) (level (3 * k))) [
      | inl less ↦ omega arith
      | inr same ↦ absurd (four (3 * k) at (omega arith) inside (omega arith))
    ]

-- a segment has at most the entries of all
pub part_fewer : (segments : List (List Registered)) (at : ℕ) → length (get_or segments at [])
    ≤ length (all_entries segments)
part_fewer [] at = omega arith
part_fewer (s ∷ segments) zero = omega (arith, length-append s (all_entries segments))
part_fewer (s ∷ segments) (suc at) = omega (arith, part_fewer segments at, length-append s (all_entries segments))

module _ (segments : List (List Registered)) where
  abbrev height : ℕ → ℕ
  height at = (level_of (length (get_or segments at []))).0

  has_level : (at : ℕ) → HasLevel segments at (height at)
  has_level at = (level_of (length (get_or segments at []))).1

  down : ((k : ℕ) → IsRise segments k → ⊥) → (i j : ℕ) → i ≤ j → j < length segments → height j ≤ height i
  down flat i j le inside = elim (cases_lt i j) [
    | inl before ↦ elim (cases_lt (height i) (height j)) [
      | inl rises ↦ absurd (flat i (record {
        behind = j;
        after = before;
        there = inside;
        low = height i;
        high =
            height j;
        low_level = has_level i;
        high_level = has_level j;
        rises = rises;
      }))
      | inr falls ↦ falls
    ]
    | inr same ↦ let e : i ≡ j = omega arith in let equal = ap height e in omega arith
  ]

  no_four : ((k : ℕ) → IsRise segments k → ⊥) → ((k : ℕ) → IsRun segments k → ⊥) → (i j : ℕ) → j ≡ i + 3
      → j < length segments → height i ≡ height j → ⊥
  no_four flat none i j e inside same = none i (run_of segments i (height i) (omega arith) (λ k lt.
      let low = down flat i (i + k) (omega arith) (omega arith) in
      let high = down flat (i + k) j (omega arith) inside in
      subst (HasLevel segments (i + k)) (omega arith) (has_level (i + k))))

  -- where no level rises and no run stands segments are few
  pub few : ((k : ℕ) → IsRise segments k → ⊥) → ((k : ℕ) → IsRun segments k → ⊥) → AreFew segments
  few flat none =
      let all = level_of (length (all_entries segments)) in
      let first = higher_of (length (get_or segments 0 [])) (length (all_entries segments)) (height 0) all.0
      (part_fewer segments 0) (has_level 0) all.1 in
      record {
        level = all.0;
        of_all = all.1;
        few = elim (cases_lt (3 * (all.0 + 1)) (length segments)) [
          | inl many ↦
              let past = falls height (length segments) (down flat) (no_four flat none) (height 0 + 1)
              (3 * (height 0 + 1)) (omega arith) (omega arith) in
              absurd (omega arith)
          | inr enough ↦ omega arith
        ];
      }
