use Rattle.std.proofs.Common.{◌≡◌, map, take}
use Rattle.clip_gather.specs.Steps.Merging.{items_of}
use Rattle.clip_engine.proofs.parts.lists_of.Given as goal

abbrev pub invariant-loop-part : goal.invariant-loop-part
invariant-loop-part l = map items_of l.lists.items ≡ map (λ part. part.told.now) (take l.part-index l.parts)
