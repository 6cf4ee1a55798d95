use Rattle.std.proofs.Common.{◌≡◌, map}
use Rattle.clip_gather.specs.Gather.{found_by}
use Rattle.clip_gather.specs.Steps.Merging.{values}
use Rattle.clip_gather.proofs.parts.lists_of.Given as goal

abbrev pub invariant-loop-part : goal.invariant-loop-part
invariant-loop-part l = map values l.lists.items ≡ map found_by l.yielded
