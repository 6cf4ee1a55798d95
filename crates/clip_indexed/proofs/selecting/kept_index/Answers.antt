use Rattle.std.proofs.Common.{map, vec_items, sym, subst, Bor}
use Rattle.std.proofs.lemmas.Result.{IfOk-weaker}
use Rattle.std.specs.Arc.{arc_value}
use Rattle.clip_indexed.specs.Selecting.{AreIndexesOf, kept_of}
use Rattle.clip_indexed.proofs.selecting.kept_index.Goals as goal

pub returns : goal.returns
returns g c =
    let is_of = g.I.Index.is_of in
    let segments = map arc_value c.args.segments.now in
    let flags = map vec_items c.args.kept.now in
    let are = subst (λ is. AreIndexesOf is_of segments (map (λ (r : Bor g.row.I.Denot). r.now) is))
    (sym c.deref.ensures.value) c.in_ok-indexes_of.ensures in
    IfOk-weaker c.select.result _ (is_of (kept_of segments flags)) (λ index made. made segments are c.requires.flags)
    c.select.ensures
