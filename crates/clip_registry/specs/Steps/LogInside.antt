-- A log as its fields hold it.
use Rattle.std.specs.Prelude.{◌≡◌, ◌-◌, length, map, slice_get, option_map, is_some}
use Rattle.std.specs.Option.{ForSome}
use Rattle.clip_standing.specs.Command.{entry_of}
use Rattle.clip_registry.specs.Steps.Log.{Log}
use Rattle.clip_registry.specs.declared.log.Log.TheInside.{Inside}

abbrev pub log_of : Inside → Log
log_of l = record { history = l.trail.history; keeps = is_some l.kept }

-- The commands are counted, the last is at hand, and where they are kept all are.
pub record IsLog (l : Inside) : Type 0 where
  pub counted : l.count ≡ length l.trail.history
  pub last : option_map entry_of l.last ≡ slice_get l.trail.history (length l.trail.history - 1)
  pub kept : ForSome l.kept (λ entries. map entry_of entries ≡ l.trail.history)
