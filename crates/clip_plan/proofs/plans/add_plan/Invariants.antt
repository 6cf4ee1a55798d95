use Rattle.std.proofs.Common.{take}
use Rattle.clip_plan.specs.Plan.{group_marks}
use Rattle.clip_plan.specs.Steps.Plans.{Adds}
use Rattle.clip_plan.proofs.Clauses.{trees}
use Rattle.clip_plan.proofs.plans.add_plan.Given as goal

abbrev pub invariant-loop-occur : goal.invariant-loop-occur
invariant-loop-occur l =
    Adds l.planner.terms.now l.fn.runs l.fn.queries.items l.fn.steps.items l.runs l.queries.items l.steps.items
    (group_marks (trees (take l.occur-index l.occur-items)))
