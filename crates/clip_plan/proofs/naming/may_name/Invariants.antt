use Rattle.std.proofs.Common.{◌≡◌, ℕ, List, map, drop}
use Rattle.clip_grammar.specs.Tree.{Tree}
use Rattle.clip_plan.specs.Steps.Judging.{meant}
use Rattle.clip_plan.specs.Steps.Naming.{marks_name}
use Rattle.clip_plan.proofs.naming.may_name.Given as goal

-- the steps so far name none
abbrev pub invariant-loop-step : goal.invariant-loop-step
invariant-loop-step l =
    (runs : List (List ℕ)) (queries : List Tree) (k : ℕ)
    → marks_name l.spots.field k (map (meant runs queries l.spots.terms) l.steps) 0
    ≡ marks_name l.spots.field k (map (meant runs queries l.spots.terms) (drop l.step-index l.steps)) 0
