use Rattle.std.proofs.Common.{◌≡◌, map, take}
use Rattle.clip_grammar.specs.Tree.{tree_of}
use Rattle.clip_plan.specs.Plan.{decoded, plan_of}
use Rattle.clip_segment.proofs.building.plans_of.Given as goal

abbrev pub invariant-loop-query : goal.invariant-loop-query
invariant-loop-query l =
    map (decoded l.terms) l.plans ≡ map plan_of (map (λ k. tree_of k.query.now) (take l.query-index l.queries))
