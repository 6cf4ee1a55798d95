use Rattle.std.proofs.Common.{◌≡◌, ◌++◌, List, map, take}
use Rattle.clip_grammar.specs.Tree.{Tree}
use Rattle.clip_plan.specs.Plan.{names}
use Rattle.clip_plan.specs.Steps.Plans.{mark_of}
use Rattle.clip_plan.proofs.renaming.add_all_named.Given as goal

abbrev pub invariant-loop-step : goal.invariant-loop-step
invariant-loop-step l = (queries : List Tree)
    → l.numbers.items ≡ l.fn.numbers.items ++ names (map (mark_of l.runs queries) (take l.step-index l.steps))
