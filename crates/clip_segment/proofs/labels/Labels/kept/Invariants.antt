use Rattle.std.proofs.Common.{◌≡◌, map, take, vec_items}
use Rattle.clip_indexed.specs.Selecting.{kept_of}
use Rattle.clip_segment.proofs.labels.Labels.kept.Given as goal

abbrev pub invariant-loop-source : goal.invariant-loop-source
invariant-loop-source l = record {
  place : l.place ≡ l.source-index;
  ids : l.labels.ids
      ≡ kept_of (take l.source-index (map (λ s. s.now.labels.ids) l.sources))
      (take l.source-index (map vec_items l.kept));
  heard : l.labels.heard.items
      ≡ kept_of (take l.source-index (map (λ s. s.now.labels.heard.items) l.sources))
      (take l.source-index (map vec_items l.kept));
}
