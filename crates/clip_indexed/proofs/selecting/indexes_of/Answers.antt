use Rattle.std.proofs.Common.{◌≡◌, ◌+◌, [], ◌∷◌, ◌++◌, map, take, sym, ap, subst, ◌∙◌, Bor}
use Rattle.std.proofs.lemmas.List.{map-append, map_more}
use Rattle.std.specs.Arc.{arc_value}
use Rattle.clip_indexed.specs.Selecting.{AreIndexesOf}
use Rattle.clip_indexed.proofs.Indexes.{one_more}
use Rattle.clip_indexed.proofs.selecting.indexes_of.Goals as goal

pub loop-segment-preserved : goal.loop-segment-preserved
loop-segment-preserved g c =
    let is_of = g.I.Index.is_of in
    let segments = c.args.segments.now in
    let i = c.loop-segment.segment-index in
    let index = c.index.result.now in
    let now : Bor g.row.I.Denot → g.row.I.Denot = λ r. r.now in
    let front = map arc_value (take i segments) in
    let here = arc_value c.segment-item.result in
    let lists : map arc_value (take (i + 1) segments) ≡ front ++ here ∷ [] =
    map_more arc_value segments i c.segment-item.result c.loop-segment-test.true
    ∙ ap (λ s. front ++ arc_value s ∷ []) (sym c.segment-item.is) in
    let indexes : map now c.push.new.self.items ≡ map now c.loop-segment.indexes.items ++ index ∷ [] =
    ap (map now) c.in_ok-push.ensures.items ∙ map-append now c.loop-segment.indexes.items _ in
    subst (λ ls. AreIndexesOf is_of ls (map now c.push.new.self.items)) (sym lists)
    (subst (AreIndexesOf is_of (front ++ here ∷ [])) (sym indexes)
    (one_more is_of front (map now c.loop-segment.indexes.items) here index c.loop-segment.invariant
    (subst (λ es. is_of es index) c.deref.ensures c.index.ensures)))
