use Rattle.std.proofs.Common.{◌+◌, ◌∙◌, set, sym, subst, arith}
use Rattle.clip_terms.proofs.EachOnce.{IsUpTo, known_again, none_yet, one_left}
use Rattle.clip_terms.proofs.reading.marks_of_each.Goals as goal

pub loop-place-init : goal.loop-place-init
loop-place-init c =
    subst (λ marks. IsUpTo c.args.numbers.now.items c.args.numbers.now.items 0 0 marks c.args.bound)
    (sym c.in_ok-marks.ensures) (none_yet c.args.numbers.now.items c.args.bound)

pub loop-place-preserved-then-is_marked : goal.loop-place-preserved-then-is_marked
loop-place-preserved-then-is_marked c =
    let before = c.loop-place.invariant in
    let whole = before.whole in
    known_again c.args.numbers.now.items c.loop-place.numbers.items c.loop-place.place c.loop-place.left
    c.loop-place.marks c.args.bound c.index-number.result.now before
    (omega (arith, c.loop-place-test.true, c.len-place-end.ensures, whole)) (sym c.index-number.ensures) c.requires
    (sym c.is_marked.ensures ∙ c.if-is_marked.true)

pub loop-place-preserved : goal.loop-place-preserved
loop-place-preserved c =
    let before = c.loop-place.invariant in
    let whole = before.whole in
    let number = c.index-number.result.now in
    subst (λ marks. IsUpTo c.args.numbers.now.items (set c.loop-place.numbers.items c.loop-place.left number)
    (c.loop-place.place + 1) (c.loop-place.left + 1) marks c.args.bound) (sym c.mark.ensures)
    (one_left c.args.numbers.now.items c.loop-place.numbers.items c.loop-place.place c.loop-place.left
    c.loop-place.marks c.args.bound number before
    (omega (arith, c.loop-place-test.true, c.len-place-end.ensures, whole)) (sym c.index-number.ensures) c.requires
    (sym c.is_marked.ensures ∙ c.if-is_marked.false))
