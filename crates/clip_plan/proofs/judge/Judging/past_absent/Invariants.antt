use Rattle.std.proofs.Common.{◌≡◌, ◌-◌, ◌≤◌, Bool, List, length, map}
use Rattle.clip_grammar.specs.Tree.{tree_of}
use Rattle.clip_extract.specs.Keys.{KeyValue}
use Rattle.clip_plan.specs.Plan.{Mark}
use Rattle.clip_plan.specs.Steps.Judging.{meant, LeadTo}
use Rattle.clip_plan.specs.declared.judge.Tally.{Tally}
use Rattle.clip_plan.proofs.judge.Judging.past_absent.Given as goal

abbrev pub invariant-loop-past : goal.invariant-loop-past
invariant-loop-past l = record {
  forward : l.fn.place ≤ l.past;
  leads : (verdict : Bool) (marks : List (Mark KeyValue)) (top : Tally) (around : List Tally)
      → map (meant l.self.runs.now (map tree_of l.self.queries.now) l.self.reading.now.terms) l.self.steps.now ≡ marks
      → LeadTo l.self.reading.now.article.fields verdict marks l.fn.place top around
      → LeadTo l.self.reading.now.article.fields verdict marks l.past top around;
}

abbrev pub decreases-loop-past : goal.decreases-loop-past
decreases-loop-past l = length l.self.steps.now - l.past
