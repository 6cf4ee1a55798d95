-- What becomes of a command: of the segments and the roster, and of the whole registry.
use Rattle.std.specs.Prelude.{◌≡◌, ℕ, ◌+◌, ◌≤◌, List, map, IsTrue}
use Rattle.std.specs.Arc.{arc_value}
use Rattle.std.specs.FinMap as finite
use Rattle.std.specs.declared.sync.Arc.{Arc}
use Rattle.std.specs.declared.alloc.Global.{Global}
use Rattle.clip_model.specs.declared.limits.TheConstants.{MOST_LIVE}
use Rattle.clip_model.specs.History.{Command, Registered, after_command, applied, applied_to, has_room, lists}
use Rattle.clip_standing.specs.Command.{answer_of}
use Rattle.clip_registry.specs.RegistryState.{RegistryState, segments_after, state_after}
use Rattle.clip_registry.specs.Steps.Roster.{Roster}
use Rattle.clip_standing.specs.declared.command.Applied.{Applied}

-- what a command changes: the segments, each as its list of entries, and the roster
pub record Content : Type 0 where
  pub segments : List (List Registered)
  pub roster : Roster

abbrev pub content : List (Arc (List Registered) Global) → Roster → Content
content segments roster = record { segments = map arc_value segments; roster = roster }

-- Segments and roster are what the command leaves of those before, not too many queries are registered, and the answer
-- is its count.
pub record IsChanged (command : Command) (before after : Content) (given : Applied) : Type 0 where
  pub registry : after.roster.registry ≡ after_command before.roster.listed command before.roster.registry
  pub listed : after.roster.listed ≡ before.roster.listed + lists command
  pub segments : after.segments ≡ segments_after before.segments before.roster.listed before.roster.registry command
  pub small : finite.len after.roster.registry ≤ MOST_LIVE
  pub answer : given ≡ answer_of command (applied_to before.roster.registry command)

-- The caller's command had room, the registry is that after it, and the answer is its count.
pub record IsAccepted (caller : ℕ) (command : Command) (before after : RegistryState) (given : Applied) : Type 0 where
  pub room : IsTrue (has_room before.history command)
  pub state : after ≡ state_after before caller command
  pub answer : given ≡ answer_of command (applied before.history command)
