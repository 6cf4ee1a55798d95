-- Events of the code as contracts see them.
use Rattle.std.specs.Prelude.{map, string_bytes}
use Rattle.std.specs.Arc.{arc_value, arc_str_bytes}
use Rattle.clip_desk.specs.Updates as event
use Rattle.clip_desk.specs.declared.events.UpdateEvent.{UpdateEvent}
use Rattle.clip_desk.specs.declared.events.UpdateEvent.TheVariants as kept
use Rattle.clip_desk.specs.declared.events.Update.{Update}
use Rattle.clip_desk.specs.declared.events.Update.TheVariants as told

-- an update, as it is told
abbrev pub told_value : Update → event.Event
told_value (told.Updated queries) = event.Updated (map (λ s. s.id) (map arc_value queries.now))
told_value (told.Deleted ids) = event.Deleted (map string_bytes ids.now)
told_value told.Cleared = event.Cleared
told_value told.Purged = event.Purged

-- an event, as a log keeps it
abbrev pub event_value : UpdateEvent → event.Event
event_value (kept.Updated ids) = event.Updated (map arc_str_bytes ids.items)
event_value (kept.Deleted ids) = event.Deleted (map arc_str_bytes ids.items)
event_value kept.Cleared = event.Cleared
event_value kept.Purged = event.Purged
