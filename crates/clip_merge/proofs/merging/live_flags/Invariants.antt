use Rattle.std.proofs.Common.{◌≡◌, map, take}
use Rattle.clip_merge.specs.Live.{names}
use Rattle.clip_merge.proofs.merging.live_flags.Given as goal

abbrev pub invariant-loop-seq : goal.invariant-loop-seq
invariant-loop-seq g l = l.flags.items ≡ map (names l.live) (take l.seq-index l.seqs)
