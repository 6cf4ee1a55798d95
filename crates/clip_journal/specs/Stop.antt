-- What a stop of the machine may leave of a store, at each moment.
use Rattle.std.specs.Prelude.{◌≡◌, ◌⊎◌, ℕ, ◌<◌, ◌≤◌, List, ◌++◌, take, Result, IsErrOf}
use Rattle.clip_journal.specs.declared.store.StoreFault.{StoreFault}
use Rattle.clip_journal.specs.declared.store.StoreFault.TheVariants.{Failed}

-- all that was there, and a front of what was appended, the last write torn
abbrev pub IsLeft : List ℕ → List ℕ → List ℕ → Type 0
IsLeft there appended left = (k : ℕ) × (left ≡ there ++ take k appended)

-- a stop leaves this and nothing else
abbrev pub Only : List ℕ → (List ℕ → Type 0) → Type 0
Only bytes may_leave = (left : List ℕ) → may_leave left → left ≡ bytes

-- A read gives what it gave before, and a stop leaves nothing that it might not have left before.
pub record IsAsItWas (before now : List ℕ) (might_leave may_leave : List ℕ → Type 0) : Type 0 where
  pub same : now ≡ before
  pub nothing_else : (left : List ℕ) → may_leave left → might_leave left

-- Time goes on: a stop since t might have left what it might have left before, or what it may leave now.
pub record Elapses (before now : ℕ) (past since : ℕ → List ℕ → Type 0) (may_leave : List ℕ → Type 0) : Type 0 where
  pub later : before ≤ now
  pub nothing_else : (t : ℕ) (left : List ℕ) → t ≤ before → since t left → past t left ⊎ may_leave left
  pub keeps : (t : ℕ) (left : List ℕ) → t ≤ before → past t left → since t left

-- A stop at any moment since old, within a call or between two, leaves bytes that have P.
pub record LeavesOnly {S : Type 0} (moment : S → ℕ) (left_since : S → ℕ → List ℕ → Type 0) (old new : S)
    (P : List ℕ → Type 0) : Type 0 where
  pub later : moment old ≤ moment new
  pub each : (left : List ℕ) → left_since new (moment old) left → P left

-- `Failed` is told only where the store has failed since
pub record HasCause {T : Type 0} (before now : ℕ) (result : Result T StoreFault) : Type 0 where
  pub later : before ≤ now
  pub failed : IsErrOf result Failed → before < now
