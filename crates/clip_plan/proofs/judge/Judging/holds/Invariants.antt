use Rattle.std.proofs.Common.{◌≡◌, ◌-◌, length, map, reverse}
use Rattle.clip_grammar.specs.Tree.{Tree, tree_of}
use Rattle.clip_meaning.specs.Meaning.{holds}
use Rattle.clip_plan.specs.Plan.{plan_of}
use Rattle.clip_plan.specs.Steps.Judging.{meant, LeadTo}
use Rattle.clip_plan.proofs.judge.Judging.holds.Given as goal

-- what is left leads to whether the query holds
abbrev pub invariant-loop-place : goal.invariant-loop-place
invariant-loop-place l =
    (tree : Tree) → map (meant l.self.runs.now (map tree_of l.self.queries.now) l.self.reading.now.terms)
    l.self.steps.now ≡ plan_of tree
    → LeadTo l.self.reading.now.article.fields (holds tree l.self.reading.now.article.fields) (plan_of tree) l.place
    l.top (reverse l.stack.items)

abbrev pub decreases-loop-place : goal.decreases-loop-place
decreases-loop-place l = length l.self.steps.now - l.place
