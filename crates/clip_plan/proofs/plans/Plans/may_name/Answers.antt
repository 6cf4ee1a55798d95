use Rattle.std.proofs.Common.{map, sym, ap, ◌∙◌}
use Rattle.clip_grammar.specs.Tree.{tree_of}
use Rattle.clip_plan.specs.Steps.Naming.{marks_name}
use Rattle.clip_plan.proofs.Judging.{plan_of_steps}
use Rattle.clip_plan.proofs.Named.{plan_named}
use Rattle.clip_plan.proofs.plans.Plans.may_name.Goals as goal

pub returns : goal.returns
returns c = λ none tree plan k.
    let runs = c.self.inside.runs in
    let queries = map tree_of c.self.inside.queries.items in
    let terms = c.args.spots.now.terms in
    let field = c.args.spots.now.field in
    sym
    (ap (λ marks. marks_name field k marks 0)
    (plan_of_steps runs queries terms c.args.self.now c.self.inside.steps c.args.place c.get.result.now tree
    c.self.view_is c.get.ensures plan)
    ∙ plan_named field k tree)
    ∙ c.may_name.ensures none runs queries k
