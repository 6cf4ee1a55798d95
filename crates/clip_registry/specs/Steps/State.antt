-- The registry as a state holds it.
use Rattle.std.specs.Prelude.{◌≡◌, ℕ, Bool, ◌-◌, ◌<◌, ◌≤◌, List, map, length, slice_index, Option, Some, None}
use Rattle.std.specs.Arc.{arc_value}
use Rattle.std.specs.declared.sync.Arc.{Arc}
use Rattle.std.specs.declared.alloc.Global.{Global}
use Rattle.clip_model.specs.declared.limits.TheConstants.{MOST_CALLERS}
use Rattle.clip_model.specs.History.{IsLegal, replay, listed, own}
use Rattle.clip_registry.specs.Steps.LiveFlags.{flags_in}
use Rattle.clip_registry.specs.Steps.Roster.{Roster}
use Rattle.clip_registry.specs.RegistryState.{RegistryState, IsWhole, beginning}
use Rattle.clip_registry.specs.declared.state.State.TheInside.{Inside}

abbrev pub state_of : {I : Type 0} → Inside I → RegistryState
state_of s = record { segments = map arc_value s.segments.items; history = s.log.history; keeps = s.log.keeps }

-- The registry is whole over a legal history, the roster is what the history replays to, and each caller's commands are
-- counted.
pub record IsConsistent (state : RegistryState) (roster : Roster) (counts : List ℕ) : Type 0 where
  pub whole : IsWhole state
  pub legal : IsLegal state.history
  pub registry : roster.registry ≡ replay state.history
  pub listed : roster.listed ≡ listed state.history
  pub callers : length counts ≡ MOST_CALLERS
  pub numbers : (caller : ℕ) → 0 < caller → caller ≤ MOST_CALLERS
      → slice_index counts (caller - 1) ≡ length (own state.history caller)

-- and beside each segment its entries are flagged where they are live
abbrev pub IsConsistentInside : {I : Type 0} → Inside I → Type 0
IsConsistentInside s = IsConsistent (state_of s) s.roster s.counts.items
    × (s.live.items ≡ flags_in s.roster.registry (map arc_value s.segments.items))

-- what a registrar or a view holds: no state before the first command, of a history that will be kept or not
abbrev pub state_or_beginning : Bool → Option (Arc RegistryState Global) → RegistryState
state_or_beginning keeps None = beginning keeps
state_or_beginning keeps (Some state) = arc_value state
