use Rattle.std.proofs.Common.{map, take}
use Rattle.clip_gather.specs.Merged.{NoneFalls}
use Rattle.clip_engine.specs.Gathered.{id_of, told_in}
use Rattle.clip_engine.proofs.parts.are_in_order.Given as goal

abbrev pub invariant-loop-part : goal.invariant-loop-part
invariant-loop-part l = NoneFalls id_of (map told_in (take l.part-index l.parts))
