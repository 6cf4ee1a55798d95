use Rattle.std.proofs.Common.{◌≡◌, map, take}
use Rattle.std.specs.Arc.{arc_value, arc_str_bytes}
use Rattle.clip_desk.proofs.update_listener.shared_ids.Given as goal

-- the ids of the first queries
abbrev pub invariant-loop-query : goal.invariant-loop-query
invariant-loop-query l = map arc_str_bytes l.ids.items ≡ map (λ s. s.id) (map arc_value (take l.query-index l.queries))
