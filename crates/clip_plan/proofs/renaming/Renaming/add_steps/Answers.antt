use Rattle.std.proofs.Common.{map, subst, arith}
use Rattle.std.proofs.lemmas.List.{take_all}
use Rattle.clip_grammar.specs.Tree.{tree_of}
use Rattle.clip_plan.specs.Steps.Plans.{Adds}
use Rattle.clip_plan.proofs.Renumbering.{marks_renamed, step_renamed}
use Rattle.clip_plan.proofs.renaming.Renaming.add_steps.Goals as goal

pub loop-step-preserved : goal.loop-step-preserved
loop-step-preserved c =
    let source = c.args.self.now in
    record {
      runs = omega (arith, c.add_step.ensures.runs, c.loop-step.invariant.runs);
      queries = omega (arith, c.add_step.ensures.queries, c.loop-step.invariant.queries);
      added = λ terms.
          step_renamed source.numbers.now source.runs.now (map tree_of source.queries.now) c.args.from.now
          c.loop-step.step-index _
          c.loop-step-test.true (c.loop-step.invariant.added terms) (c.in_ok-add_step.ensures.added terms);
    }

pub returns-clause-added : goal.returns-clause-added
returns-clause-added c = λ terms.
    let source = c.args.self.now in
    subst (λ xs. Adds terms c.args.runs.now c.args.queries.now.items c.args.steps.now.items c.loop-step.runs
    c.loop-step.queries.items c.loop-step.steps.items
    (marks_renamed terms source.numbers.now source.runs.now (map tree_of source.queries.now) xs))
    (take_all c.loop-step.step-index c.args.from.now c.loop-step-test.false) (c.loop-step.invariant.added terms)
