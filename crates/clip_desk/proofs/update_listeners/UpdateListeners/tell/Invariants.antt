use Rattle.clip_desk.specs.Told.{told_value}
use Rattle.clip_desk.specs.Steps.Telling.{IsToldTo}
use Rattle.clip_desk.proofs.update_listeners.UpdateListeners.tell.Given as goal

-- the first listeners are told, and the others are as they were
abbrev pub invariant-loop-part : goal.invariant-loop-part
invariant-loop-part g l =
    IsToldTo g.L.UpdateListener.heard (told_value l.update) l.part-index l.initial.part-items l.part-items
