use Rattle.std.proofs.Common.{sym, ap, ◌∙◌, map}
use Rattle.clip_grammar.specs.Tree.{tree_of}
use Rattle.clip_plan.specs.Steps.Outlines.{outline}
use Rattle.clip_plan.proofs.Judging.{not_false, plan_of_steps}
use Rattle.clip_plan.proofs.Outlines.{ruled_out_at}
use Rattle.clip_plan.proofs.plans.Plans.may_hold.Goals as goal

pub returns-then-not-may_hold : goal.returns-then-not-may_hold
returns-then-not-may_hold c = λ tree plan fails.
    ruled_out_at c.args.reading.now.terms c.args.reading.now.article.fields c.args.self.now c.deref.result.now
    c.args.place c.in-Some.outline.now tree
    (record {
      kept = c.deref.ensures.value ∙ c.self.invariant.1 ∙ ap (map outline) c.self.view_is;
      inside = c.in-Some.ensures.lookup.3.0;
      is = c.in-Some.ensures.lookup.1;
    })
    plan (sym c.may_hold.ensures ∙ c.if-not-may_hold.true)

pub returns-else-may_settle : goal.returns-else-may_settle
returns-else-may_settle c = λ tree plan fails.
    let queries = map tree_of c.self.inside.queries.items in
    c.first_excludes.ensures c.self.inside.runs queries tree (not_false c.first_excludes.result fails)
    (plan_of_steps c.self.inside.runs queries c.args.reading.now.terms c.args.self.now c.self.inside.steps c.args.place
    c.get-else-may_settle.result.now tree c.self.view_is c.get-else-may_settle.ensures plan)
