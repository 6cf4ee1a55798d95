use Rattle.std.proofs.Common.{ap, sym, ◌∙◌}
use Rattle.std.specs.Ordering.{ordering_reverse}
use Rattle.clip_extract.proofs.Order.{key_cmp_total, key_cmp_same}
use Rattle.clip_terms.proofs.Merging.{left_first, both_first, right_first}
use Rattle.clip_terms.proofs.heads.lesser.Goals as goal

pub returns-in-Less-clause-lesser : goal.returns-in-Less-clause-lesser
returns-in-Less-clause-lesser c =
    let here = c.in-Some.ensures.lookup in
    let there = c.in-Some-get.ensures.lookup in
    left_first c.args.left.now c.args.right.now c.args.at_left c.args.at_right c.in-Some.x.now c.in-Some-get.y.now
    here.3.0 here.1 there.3.0 there.1 (sym c.in-Less.ensures)

pub returns-in-Equal-clause-lesser : goal.returns-in-Equal-clause-lesser
returns-in-Equal-clause-lesser c =
    let here = c.in-Some.ensures.lookup in
    let there = c.in-Some-get.ensures.lookup in
    both_first c.args.left.now c.args.right.now c.args.at_left c.args.at_right c.in-Some.x.now c.in-Some-get.y.now
    here.3.0 here.1 there.3.0 there.1 (key_cmp_same _ _ (sym c.in-Equal.ensures))

pub returns-in-Greater-clause-lesser : goal.returns-in-Greater-clause-lesser
returns-in-Greater-clause-lesser c =
    let here = c.in-Some.ensures.lookup in
    let there = c.in-Some-get.ensures.lookup in
    right_first c.args.left.now c.args.right.now c.args.at_left c.args.at_right c.in-Some.x.now c.in-Some-get.y.now
    here.3.0 here.1 there.3.0 there.1 (key_cmp_total.antisymm c.in-Some-get.y.now c.in-Some.x.now
    ∙ ap ordering_reverse (sym c.in-Greater.ensures))
