use Rattle.std.proofs.Common.{◌≡◌, map, take}
use Rattle.clip_segment.proofs.labelled_index.indexes_of.Given as goal

abbrev pub invariant-loop-source : goal.invariant-loop-source
invariant-loop-source l = map (λ i. i.now) l.indexes.items ≡ map (λ s. s.now.queries) (take l.source-index l.sources)
