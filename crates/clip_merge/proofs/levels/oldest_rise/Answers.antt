use Rattle.std.proofs.Common.{ℕ, ◌-◌, ◌<◌, List, length, map, ap, ◌∙◌, arith}
use Rattle.std.proofs.lemmas.List.{length-map}
use Rattle.std.specs.Arc.{arc_value}
use Rattle.clip_model.specs.History.{Registered}
use Rattle.clip_merge.proofs.Rises.{seen_all, seen_higher, seen_lower}
use Rattle.clip_merge.proofs.Runs.{level_at}
use Rattle.clip_merge.proofs.levels.oldest_rise.Goals as goal

pub loop-at-preserved-then-here-highest : goal.loop-at-preserved-then-here-highest
loop-at-preserved-then-here-highest g c =
    let segments : List (List Registered) = map arc_value c.args.segments.now in
    let at : ℕ = c.loop-at.at - 1 in
    let here = level_at arc_value c.args.segments.now at c.index-segments-at.result c.len.result c.level-here.result
    (omega arith) c.index-segments-at.is (c.len.ensures ∙ ap length c.deref.ensures) c.level-here.ensures in
    seen_lower segments at c.loop-at.at c.loop-at.highest c.level-here.result c.loop-at.oldest (omega arith) here
    c.if-here-highest.true c.loop-at.invariant

pub loop-at-preserved : goal.loop-at-preserved
loop-at-preserved g c =
    let segments : List (List Registered) = map arc_value c.args.segments.now in
    let at : ℕ = c.loop-at.at - 1 in
    let inside : at < length segments = omega (arith, length-map c.args.segments.now arc_value) in
    let here = level_at arc_value c.args.segments.now at c.index-segments-at.result c.len.result c.level-here.result
    (omega arith) c.index-segments-at.is (c.len.ensures ∙ ap length c.deref.ensures) c.level-here.ensures in
    seen_higher segments at c.loop-at.at c.loop-at.highest c.level-here.result c.loop-at.oldest (omega arith) inside
    here c.if-here-highest.false c.loop-at.invariant

pub returns-clause-rise : goal.returns-clause-rise
returns-clause-rise g c = seen_all (map arc_value c.args.segments.now) c.loop-at.at c.loop-at.highest c.loop-at.oldest
    (omega arith) c.loop-at.invariant
