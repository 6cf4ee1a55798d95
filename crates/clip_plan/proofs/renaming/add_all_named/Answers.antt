use Rattle.std.proofs.Common.{◌++◌, map, ap, ◌∙◌}
use Rattle.std.proofs.lemmas.List.{take_all}
use Rattle.clip_plan.specs.Plan.{names}
use Rattle.clip_plan.specs.Steps.Plans.{mark_of}
use Rattle.clip_plan.proofs.Renumbering.{next_named}
use Rattle.clip_plan.proofs.renaming.add_all_named.Goals as goal

pub loop-step-preserved : goal.loop-step-preserved
loop-step-preserved c = λ queries.
    next_named (mark_of c.args.runs.now queries) c.args.steps.now c.loop-step.step-index _ c.args.numbers.now.items
    c.loop-step.numbers.items c.add_named.new.numbers.items
    c.loop-step-test.true (c.loop-step.invariant queries) (c.in_ok-add_named.ensures queries)

pub returns : goal.returns
returns c = λ queries.
    c.loop-step.invariant queries
    ∙ ap (λ xs. c.args.numbers.now.items ++ names (map (mark_of c.args.runs.now queries) xs))
    (take_all c.loop-step.step-index c.args.steps.now c.loop-step-test.false)
