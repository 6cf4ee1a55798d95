use Rattle.std.proofs.Common.{◌+◌, ◌∷◌, [], ◌∙◌, List, ap, arith, map, subst, sym}
use Rattle.std.proofs.lemmas.List.{length-map, map-append}
use Rattle.std.specs.Arc.{arc_value}
use Rattle.clip_model.specs.History.{Registered}
use Rattle.tests.proofs.Rising.{IsFilled, filled_more}
use Rattle.tests.proofs.making.segment_of.Goals as goal

pub loop-seq-preserved : goal.loop-seq-preserved
loop-seq-preserved c =
    let before = c.loop-seq.entries.items in
    let next = c.in_ok-entry.field-0 in
    subst (λ (es : List Registered). IsFilled (c.loop-seq.seq + 1) es)
    (sym (ap (map arc_value) c.in_ok-push.ensures.items ∙ map-append arc_value before (next ∷ [])))
    (filled_more c.loop-seq.seq (map arc_value before) (arc_value next) c.loop-seq.invariant c.in_ok-entry.ensures)

pub build-requires-clause-short : goal.build-requires-clause-short
build-requires-clause-short c =
    let count = c.loop-seq.invariant.count in
    let end = c.loop-seq.auto.seq-end in
    omega (arith, length-map c.loop-seq.entries.items arc_value)

pub build-requires-clause-rising : goal.build-requires-clause-rising
build-requires-clause-rising c = c.loop-seq.invariant.rising
