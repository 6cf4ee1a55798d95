-- The level of a length.
use Rattle.std.proofs.Common.{◌≡◌, ℕ, ◌+◌, ◌*◌, ◌/◌, ◌^◌, ◌<◌, ◌≤◌, arith, inl, inr}
use Rattle.std.proofs.lemmas.Bool.{cases_lt}
use Rattle.std.proofs.Math.Nat.{mul-le-mul_left, pow-le-pow_right}
use Rattle.std.proofs.lemmas.Grind.{pow_more}
use Rattle.clip_model.specs.declared.limits.TheConstants.{RUN_LENGTH}
use Rattle.clip_merge.specs.Plan.{IsLevel}

-- a length has one level
pub one_level : (n a b : ℕ) → IsLevel n a → IsLevel n b → a ≡ b
one_level n a b is other = let low = is.least b other.below in let high = other.least a is.below in omega arith

-- after so many divisions by RUN_LENGTH of the length, this is left, and nothing only where none was made
pub record Divided (n level rest : ℕ) : Type 0 where
  pub low : rest * RUN_LENGTH ^ level ≤ n
  pub high : n < (rest + 1) * RUN_LENGTH ^ level
  pub some : 0 < level → 0 < rest

pub divided_more : (n level rest : ℕ) → Divided n level rest → RUN_LENGTH ≤ rest
    → Divided n (level + 1) (rest / RUN_LENGTH)
divided_more n level rest is large =
    let low = is.low in
    let high = is.high in
    record {
      low = rw (pow_more RUN_LENGTH level)
          (omega (
            arith,
            mul-le-mul_left (RUN_LENGTH ^ level) (let h : RUN_LENGTH * (rest / RUN_LENGTH) ≤ rest =
                omega arith in h),
          ));
      high = rw (pow_more RUN_LENGTH level)
          (omega (
            arith,
            mul-le-mul_left (RUN_LENGTH ^ level) (let h : rest + 1
                ≤ RUN_LENGTH * (rest / RUN_LENGTH + 1) = omega arith in h),
          ));
      some = λ h. omega arith;
    }

-- each power of RUN_LENGTH up to that of the level is within the length
power_within : (n level rest : ℕ) → Divided n level rest → 0 < rest → (k : ℕ) → k ≤ level → RUN_LENGTH ^ k ≤ n
power_within n level rest is some k le =
    let low = is.low in
    let one = mul-le-mul_left (RUN_LENGTH ^ level) (let h : 1 ≤ rest = omega arith in h) in
    let power : RUN_LENGTH ^ k ≤ RUN_LENGTH ^ level = pow-le-pow_right (omega arith) le in
    omega arith

pub divided_is_level : (n level rest : ℕ) → Divided n level rest → rest < RUN_LENGTH → IsLevel n level
divided_is_level n level rest is small = record {
  below = let high = is.high in let all =
      mul-le-mul_left (RUN_LENGTH ^ level) (let h : rest + 1 ≤ RUN_LENGTH = omega arith in h) in let more =
      pow_more RUN_LENGTH level in omega arith;
  least = λ k below. elim (cases_lt k level) [
    | inl more ↦ let power = power_within n level rest is (is.some (omega arith)) (k + 1) (omega arith) in
        absurd (omega arith)
    | inr enough ↦ enough
  ];
}

-- a length of 64 bits has a level below 32
pub few_levels : (n level rest : ℕ) → Divided n level rest → 0 < rest → n < 2 ^ 64 → level < 32
few_levels n level rest is some short = elim (cases_lt level 32) [
  | inl few ↦ few
  | inr many ↦ let power : RUN_LENGTH ^ 32 ≤ n = power_within n level rest is some 32 many in absurd (omega arith)
]
