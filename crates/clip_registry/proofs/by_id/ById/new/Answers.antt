use Rattle.std.proofs.Common.{map, ap}
use Rattle.std.specs.Arc.{arc_value}
use Rattle.clip_registry.specs.Steps.Pieces.{joined}
use Rattle.clip_registry.proofs.Joining.{Shared, empty_map, nothing_yet}
use Rattle.clip_registry.proofs.by_id.ById.new.Goals as goal

pub invariant_of-result : goal.invariant_of-result
invariant_of-result c = nothing_yet c.new.result.items c.new.ensures.items

pub returns : goal.returns
returns c = empty_map (map arc_value c.new.result.items)
    (ap (λ (xs : Shared). joined (map arc_value xs)) c.new.ensures.items)
