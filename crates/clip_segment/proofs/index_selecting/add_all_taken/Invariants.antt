use Rattle.std.proofs.Common.{◌≡◌, ◌++◌, flat_map, take}
use Rattle.clip_segment.specs.Steps.Parts.{taken}
use Rattle.clip_segment.proofs.index_selecting.add_all_taken.Given as goal

abbrev pub invariant-loop-source : goal.invariant-loop-source
invariant-loop-source l =
    l.list.items ≡ l.fn.list.items ++ flat_map (taken l.second l.number) (take l.source-index l.sources)
