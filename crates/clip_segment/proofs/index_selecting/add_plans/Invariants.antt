-- The plans so far, with those to come.
use Rattle.std.proofs.Common.{◌≡◌, ◌++◌, List, map, drop}
use Rattle.clip_extract.specs.Keys.{KeyValue}
use Rattle.clip_plan.specs.Plan.{decoded, renamed}
use Rattle.clip_indexed.specs.Selecting.{flagged}
use Rattle.clip_segment.proofs.index_selecting.add_plans.Given as goal

abbrev pub invariant-loop-position : goal.invariant-loop-position
invariant-loop-position l =
    (terms : List KeyValue) → map (decoded terms) l.plans
    ++ map (λ plan. decoded terms (renamed l.numbers plan))
    (flagged (drop l.position l.kept) (drop l.position l.other))
    ≡ map (decoded terms) l.fn.plans ++ map (λ plan. decoded terms (renamed l.numbers plan)) (flagged l.kept l.other)
