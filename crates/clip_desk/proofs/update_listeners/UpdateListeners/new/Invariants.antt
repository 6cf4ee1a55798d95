use Rattle.std.proofs.Common.{◌≡◌, ◌+◌, ◌++◌, ◌≤◌, map}
use Rattle.std.specs.Vec.{vec_len, vec_capacity}
use Rattle.std.specs.Vec.Iter.{into_iter_items, into_iter_len}
use Rattle.clip_desk.specs.Updates.{heard_by, unmarked}
use Rattle.clip_desk.proofs.update_listeners.UpdateListeners.new.Given as goal

-- the first listeners have their marks, the others are still to come, and there is room for them
abbrev pub invariant-loop-listener : goal.invariant-loop-listener
invariant-loop-listener g l =
    let heard = g.L.UpdateListener.heard in
    let rest = l.listener-iterator in
    (goal.iterator-loop-listener g).can_next rest ×
    (goal.iterator-loop-listener g).is_finite rest ×
    (map (heard_by heard) l.parts.items ++ unmarked heard (into_iter_items rest) ≡ unmarked heard l.fn.listeners.items)
    ×
    (vec_len l.parts + into_iter_len rest ≤ vec_capacity l.parts)
