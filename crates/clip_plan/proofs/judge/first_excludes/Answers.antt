use Rattle.std.proofs.Common.{sym, ◌∙◌}
use Rattle.clip_plan.proofs.Judging.{step_excludes}
use Rattle.clip_plan.proofs.judge.first_excludes.Goals as goal

pub returns-in-Some-Term-MustNot-default : goal.returns-in-Some-Term-MustNot-default
returns-in-Some-Term-MustNot-default c = λ runs queries tree had plan.
    let first = c.in-Some-Term-MustNot-default in
    let reading = c.args.reading.now in
    step_excludes runs queries reading.terms reading.article.fields tree c.args.steps.now first.field-0.now
    first.field-0-0 first.number first.ensures.item.3.0 first.ensures.item.1 first.field-0-is first.field-0-0-is
    (sym c.has.ensures ∙ had) plan
