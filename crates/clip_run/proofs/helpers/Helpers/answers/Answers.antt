use Rattle.std.specs.Arc.{arc_value}
use Rattle.std.proofs.lemmas.List.Sorted.{All-permutation}
use Rattle.clip_run.specs.Due.{IsDueAt}
use Rattle.clip_run.proofs.helpers.Helpers.answers.Goals as goal

pub loop-preserved : goal.loop-preserved
loop-preserved g c =
    let group = arc_value c.args.group.now in
    let finished = c.finish_last.ensures group.settings group.items.items c.loop.invariant.asked c.loop.invariant.due in
    record { asked = finished.0; due = finished.1 }

pub returns : goal.returns
returns g c =
    let group = arc_value c.args.group.now in
    All-permutation (IsDueAt group.settings group.items.items) c.loop.answers.items
    c.order_last_first.new.answers.items c.order_last_first.ensures c.loop.invariant.due
