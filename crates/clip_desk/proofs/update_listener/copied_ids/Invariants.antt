use Rattle.std.proofs.Common.{◌≡◌, map, take, string_bytes}
use Rattle.std.specs.Arc.{arc_str_bytes}
use Rattle.clip_desk.proofs.update_listener.copied_ids.Given as goal

-- the first ids
abbrev pub invariant-loop-id : goal.invariant-loop-id
invariant-loop-id l = map arc_str_bytes l.copies.items ≡ map string_bytes (take l.id-index l.ids)
