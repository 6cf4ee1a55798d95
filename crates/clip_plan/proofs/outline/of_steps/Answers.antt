use Rattle.clip_plan.specs.Steps.Plans.{mark_of}
use Rattle.clip_plan.proofs.Outlines.{one_mark, two_marks, first_mark}
use Rattle.clip_plan.proofs.outline.of_steps.Goals as goal
use Rattle.std.proofs.Common.{◌∙◌}

pub returns-in-len1 : goal.returns-in-len1
returns-in-len1 c = λ queries.
    c.of_one.ensures queries
    ∙ one_mark (mark_of c.args.runs.now queries) c.args.steps.now _ c.in-len1.len_at_least c.in-len1.len_below

pub returns-in-len2 : goal.returns-in-len2
returns-in-len2 c = λ queries.
    c.of_two.ensures queries
    ∙ two_marks (mark_of c.args.runs.now queries) c.args.steps.now _ _ c.in-len2.len_at_least c.in-len2.len_below

pub returns-in-len3-up : goal.returns-in-len3-up
returns-in-len3-up c = λ queries.
    c.of_first.ensures queries
    ∙ first_mark (mark_of c.args.runs.now queries) c.args.steps.now _ c.in-len3-up.len_at_least
