-- What merge turns do.
use Rattle.std.specs.Prelude.{◌≡◌, ℕ, zero, suc, Bool}
use Rattle.clip_registry.specs.Merging.{Job, IsInstalled, IsTurnBegun, merge_of}
use Rattle.clip_registry.specs.RegistryState.{RegistryState}

-- The neighbours of a merge turn were merged, to one segment or not.
pub record HasMerged (to_one : Bool) (old new : RegistryState) : Type 0 where
  pub job : Job
  pub begun : IsTurnBegun to_one old job
  pub installed : IsInstalled old new (merge_of job)

-- so many turns were taken, one after another
abbrev pub HaveMerged : Bool → ℕ → RegistryState → RegistryState → Type 0
HaveMerged to_one zero old new = new ≡ old
HaveMerged to_one (suc turns) old new =
    (between : RegistryState) × HaveMerged to_one turns old between × HasMerged to_one between new

-- some turns were taken, or none
abbrev pub TakesTurns : Bool → RegistryState → RegistryState → Type 0
TakesTurns to_one old new = (turns : ℕ) × HaveMerged to_one turns old new
