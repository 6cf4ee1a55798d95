use Rattle.std.proofs.Common.{◌≡◌, List, map, rules, subst}
use Rattle.std.specs.Prelude.{IfOk}
use Rattle.std.proofs.lemmas.Result.{IfOk-weaker}
use Rattle.clip_grammar.specs.Tree.{Tree, tree_of}
use Rattle.clip_grammar.specs.declared.query.Query.{Query}
use Rattle.clip_meaning.specs.Meaning.{holds}
use Rattle.clip_plan.specs.Plan.{plan_of}
use Rattle.clip_plan.specs.Steps.Judging.{meant}
use Rattle.clip_plan.proofs.Judging.{judged_at}
use Rattle.clip_plan.proofs.plans.Plans.judge.Goals as goal

pub returns-clause-held : goal.returns-clause-held
returns-clause-held c =
    let reading = c.args.reading.now in
    IfOk-weaker c.holds.result _ _ (λ held judged tree plan shares. judged tree plan)
    (judged_at c.self.inside.runs (map tree_of c.self.inside.queries.items) reading.terms reading.article.fields
    c.args.self.now c.self.inside.steps c.args.place c.get.result.now c.holds.result c.self.view_is c.get.ensures
    (subst (λ (queries : List Query). IfOk c.holds.result
    (λ held. (tree : Tree) → map (meant c.self.inside.runs (map tree_of queries) reading.terms) c.get.result.now
    ≡ plan_of tree → held ≡ holds tree reading.article.fields)) c.deref.ensures.value c.holds.ensures))

pub returns-clause-counted : goal.returns-clause-counted
returns-clause-counted c = search rules
