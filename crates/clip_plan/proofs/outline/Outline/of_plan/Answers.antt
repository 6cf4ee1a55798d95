use Rattle.std.proofs.Common.{sym, ◌∙◌}
use Rattle.clip_plan.specs.Steps.Plans.{mark_of}
use Rattle.clip_plan.proofs.Outlines.{of_nothing, of_choices, of_others}
use Rattle.clip_plan.proofs.outline.Outline.of_plan.Goals as goal

pub returns-then-is_empty : goal.returns-then-is_empty
returns-then-is_empty c = λ queries.
    of_nothing (mark_of c.args.runs.now queries) c.args.steps.now (sym c.is_empty.ensures ∙ c.if-is_empty.true)

pub returns-then-may_all_be_there : goal.returns-then-may_all_be_there
returns-then-may_all_be_there c = λ queries.
    of_choices c.args.runs.now queries c.args.steps.now (sym c.is_empty.ensures ∙ c.if-is_empty.false)
    (sym c.may_all_be_there.ensures ∙ c.if-may_all_be_there.true)

pub returns : goal.returns
returns c = λ queries.
    c.of_steps.ensures queries
    ∙ of_others c.args.runs.now queries c.args.steps.now (sym c.is_empty.ensures ∙ c.if-is_empty.false)
    (sym c.may_all_be_there.ensures ∙ c.if-may_all_be_there.false)
