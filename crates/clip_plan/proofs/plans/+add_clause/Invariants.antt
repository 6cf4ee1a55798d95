use Rattle.std.proofs.Common.{◌++◌, ◌∷◌, [], take}
use Rattle.clip_grammar.specs.Tree.{tree_of, nodes}
use Rattle.clip_plan.specs.Plan.{group_marks}
use Rattle.clip_plan.specs.Steps.Plans.{Adds}
use Rattle.clip_plan.specs.declared.step.Step.TheVariants as step
use Rattle.clip_plan.proofs.Clauses.{trees}
use Rattle.clip_plan.proofs.plans.+add_clause.Given as goal

abbrev pub decreases-add_clause : goal.decreases-add_clause
decreases-add_clause l = nodes (tree_of l.query.now)

-- behind the group's beginning stand the clauses so far
abbrev pub invariant-loop-occur : goal.invariant-loop-occur
invariant-loop-occur l =
    Adds l.planner.terms.now l.fn.runs l.fn.queries.items (l.fn.steps.items ++ step.Open l.fn.occur 0 ∷ [])
    l.runs l.queries.items l.steps.items (group_marks (trees (take l.occur-index l.occur-items)))
