use Rattle.std.proofs.Common.{◌≤◌, List, map, take, length}
use Rattle.clip_grammar.specs.Tree.{tree_of}
use Rattle.clip_extract.specs.Keys.{KeyValue}
use Rattle.clip_plan.specs.Steps.Plans.{Adds}
use Rattle.clip_plan.proofs.Renumbering.{marks_renamed}
use Rattle.clip_plan.proofs.renaming.Renaming.add_steps.Given as goal

abbrev pub invariant-loop-step : goal.invariant-loop-step
invariant-loop-step l = record {
  runs : length l.fn.runs ≤ length l.runs;
  queries : length l.fn.queries.items ≤ length l.queries.items;
  added : (terms : List KeyValue)
      → Adds terms l.fn.runs l.fn.queries.items l.fn.steps.items l.runs l.queries.items l.steps.items
      (marks_renamed terms l.self.numbers.now l.self.runs.now (map tree_of l.self.queries.now)
      (take l.step-index l.from));
}
