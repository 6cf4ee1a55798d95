use Rattle.std.proofs.Common.{ℕ, ◌+◌, ◌-◌, ◌<◌, List, length, map, sym, ap, ◌∙◌, subst, arith}
use Rattle.std.proofs.lemmas.List.{length-map}
use Rattle.std.specs.Arc.{arc_value}
use Rattle.clip_model.specs.History.{Registered}
use Rattle.clip_merge.specs.Plan.{HasLevel}
use Rattle.clip_merge.proofs.Runs.{Walked, level_at, walked_alike, walked_found, walked_other}
use Rattle.clip_merge.proofs.levels.plan.Goals as goal
use Rattle.clip_merge.proofs.levels.plan.Goals.{then-here-last, else-here-last}

pub returns-then-count-eq-RUN_LENGTH-clause-run : goal.returns-then-count-eq-RUN_LENGTH-clause-run
returns-then-count-eq-RUN_LENGTH-clause-run g c =
    let segments : List (List Registered) = map arc_value c.args.segments.now in
    let at : ℕ = c.loop-at.at in
    let few = c.loop-at.invariant.few in
    let within = c.loop-at.invariant.within in
    let inside : at < length segments = omega (arith, length-map c.args.segments.now arc_value, c.loop-at-test.true) in
    let here = level_at arc_value c.args.segments.now at c.index-segments-at.result c.len.result c.level-here.result
    c.loop-at-test.true c.index-segments-at.is (c.len.ensures ∙ ap length c.deref.ensures) c.level-here.ensures in
    elim c.if-here-last.branch [
      | then-here-last w ↦ (
        walked_found segments at c.loop-at.count c.loop-at.last (at + 1 - c.if-here-last.count) c.loop-at.invariant
            (omega arith) (omega arith) inside
            (subst (λ l. HasLevel segments at l) w.if-here-last.true here),
        omega arith,
      )
      | else-here-last w ↦ absurd (omega arith)
    ]

pub loop-at-preserved : goal.loop-at-preserved
loop-at-preserved g c =
    let segments : List (List Registered) = map arc_value c.args.segments.now in
    let at : ℕ = c.loop-at.at in
    let few = c.loop-at.invariant.few in
    let here = level_at arc_value c.args.segments.now at c.index-segments-at.result c.len.result c.level-here.result
    c.loop-at-test.true c.index-segments-at.is (c.len.ensures ∙ ap length c.deref.ensures) c.level-here.ensures in
    elim c.if-here-last.branch [
      | then-here-last w ↦
          subst (λ n. Walked segments (at + 1) n c.level-here.result) (sym w.count-is)
          (subst (λ l. Walked segments (at + 1) (c.loop-at.count + 1) l) (sym w.if-here-last.true)
          (walked_alike segments at c.loop-at.count c.loop-at.last c.loop-at.invariant (omega arith)
          (subst (λ l. HasLevel segments at l) w.if-here-last.true here)))
      | else-here-last w ↦
          subst (λ n. Walked segments (at + 1) n c.level-here.result) (sym w.count-is)
          (walked_other segments at c.loop-at.count c.loop-at.last c.level-here.result c.loop-at.invariant here
          w.if-here-last.false)
    ]

pub returns-clause-none : goal.returns-clause-none
returns-clause-none g c = λ none first run. c.loop-at.invariant.none first (let there = run.there in
    omega (arith, length-map c.args.segments.now arc_value, c.loop-at-test.false)) run
