use Rattle.std.proofs.Common.{map, reverse}
use Rattle.clip_grammar.specs.Tree.{tree_of}
use Rattle.clip_plan.proofs.Judging.{step_passed, step_judged}
use Rattle.clip_plan.proofs.judge.Judging.turn.Goals as goal

pub returns-then-passed-gt0-clause-leads : goal.returns-then-passed-gt0-clause-leads
returns-then-passed-gt0-clause-leads c = λ verdict marks same f.
    let judging = c.args.self.now in
    step_passed judging.runs.now (map tree_of judging.queries.now) judging.reading.now.terms
    judging.reading.now.article.fields verdict judging.steps.now marks c.args.place c.passed-passed.result _
    c.args.top (reverse c.args.stack.now.items)
    c.requires (c.passed-passed.ensures.is judging.runs.now (map tree_of judging.queries.now)
    judging.reading.now.terms) c.if-passed-gt0.true same f

pub returns-clause-leads : goal.returns-clause-leads
returns-clause-leads c = λ verdict marks same f.
    let judging = c.args.self.now in
    step_judged judging.runs.now (map tree_of judging.queries.now) judging.reading.now.terms
    judging.reading.now.article.fields verdict judging.steps.now marks c.args.place c.onward.result _ c.args.top
    c.in_ok-next.next (reverse c.args.stack.now.items) (reverse c.tally_after.new.stack.items)
    c.step_holds-held.result
    c.requires c.step_holds-held.ensures (c.in_ok-next.ensures judging.runs.now (map tree_of judging.queries.now)
    judging.reading.now.terms) c.onward.ensures same f
