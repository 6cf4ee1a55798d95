use Rattle.std.proofs.Common.{List, map, ap, ◌∙◌}
use Rattle.clip_grammar.specs.Tree.{tree_of}
use Rattle.clip_grammar.specs.declared.query.Query.{Query}
use Rattle.clip_plan.specs.Steps.Judging.{meant}
use Rattle.clip_plan.proofs.Judging.{plan_of_steps}
use Rattle.clip_plan.proofs.plans.Plans.mark_hits.Goals as goal

pub returns-clause-raised : goal.returns-clause-raised
returns-clause-raised c = λ tree plan.
    let runs = c.self.inside.runs in
    let queries = map tree_of c.self.inside.queries.items in
    let terms = c.args.spots.now.terms in
    c.mark_by.ensures.raised tree
    (ap (λ (qs : List Query). map (meant runs (map tree_of qs) terms) c.get.result.now) c.deref.ensures.value
    ∙ plan_of_steps runs queries terms c.args.self.now c.self.inside.steps c.args.place c.get.result.now tree
    c.self.view_is c.get.ensures plan)
