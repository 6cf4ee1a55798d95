use Rattle.std.proofs.Common.{◌+◌, map, vec_items, ap, ◌∙◌, arith}
use Rattle.std.proofs.lemmas.List.{length-map}
use Rattle.clip_segment.proofs.Flagged.{kept_after, kept_whole}
use Rattle.clip_segment.proofs.labels.Labels.kept.Goals as goal

pub loop-source-preserved : goal.loop-source-preserved
loop-source-preserved c =
    let sources = c.args.sources.now in
    let flags = map vec_items c.args.kept.now in
    let i = c.loop-source.source-index in
    let before = c.loop-source.invariant in
    let added = c.in_ok-labels-2.ensures in
    record {
      place = ap (λ n. n + 1) before.place;
      ids =
          kept_after (λ s. s.now.labels.ids) sources flags i c.loop-source.place c.source-item.result _ _ _
          c.loop-source-test.true c.source-item.is before.place c.flags_of.ensures before.ids added.ids;
      heard =
          kept_after (λ s. s.now.labels.heard.items) sources flags i c.loop-source.place c.source-item.result _ _ _
          c.loop-source-test.true c.source-item.is before.place c.flags_of.ensures before.heard added.heard;
    }

pub returns-clause-ids : goal.returns-clause-ids
returns-clause-ids c =
    let lists = map (λ s. s.now.labels.ids) c.args.sources.now in
    c.loop-source.invariant.ids
    ∙ kept_whole lists (map vec_items c.args.kept.now) c.loop-source.source-index
    (omega (arith, c.loop-source-test.false, length-map c.args.sources.now (λ s. s.now.labels.ids)))

pub returns-clause-heard : goal.returns-clause-heard
returns-clause-heard c =
    let lists = map (λ s. s.now.labels.heard.items) c.args.sources.now in
    c.loop-source.invariant.heard
    ∙ kept_whole lists (map vec_items c.args.kept.now) c.loop-source.source-index
    (omega (arith, c.loop-source-test.false, length-map c.args.sources.now (λ s. s.now.labels.heard.items)))
