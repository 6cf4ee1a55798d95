use Rattle.std.proofs.Common.{map, reverse, ◌∙◌}
use Rattle.clip_grammar.specs.Tree.{tree_of}
use Rattle.clip_meaning.specs.Meaning.{holds}
use Rattle.clip_plan.specs.Plan.{plan_of}
use Rattle.clip_plan.proofs.Judging.{plan_begun, plan_judged}
use Rattle.clip_plan.proofs.judge.Judging.holds.Goals as goal

pub loop-place-init : goal.loop-place-init
loop-place-init c = λ tree plan.
    let judging = c.args.self.now in
    plan_begun judging.runs.now (map tree_of judging.queries.now) judging.reading.now.terms
    judging.reading.now.article.fields tree judging.steps.now c.clear.new.self.items c.new-top.result plan
    c.new-top.ensures c.clear.ensures.items

pub loop-place-preserved : goal.loop-place-preserved
loop-place-preserved c = λ tree plan.
    let verdict = holds tree c.args.self.now.reading.now.article.fields in
    c.past_absent-place.ensures.leads verdict (plan_of tree) c.in_ok-next.tally
    (reverse c.turn.new.stack.items) plan
    (c.in_ok-next.ensures.leads verdict (plan_of tree) plan (c.loop-place.invariant tree plan))

pub returns : goal.returns
returns c = λ tree plan.
    let judging = c.args.self.now in
    c.holds.ensures
    ∙ plan_judged judging.runs.now (map tree_of judging.queries.now) judging.reading.now.terms
    judging.reading.now.article.fields tree judging.steps.now c.loop-place.place c.loop-place.top
    (reverse c.loop-place.stack.items) plan c.loop-place-test.false (c.loop-place.invariant tree plan)
