use Rattle.std.proofs.Common.{◌∙◌, ◌+◌, ◌-◌, ◌≤◌, map, get_or, arith, refl}
use Rattle.clip_grammar.specs.Tree.{tree_of}
use Rattle.clip_meaning.specs.Steps.Marks.{is_up}
use Rattle.clip_plan.specs.Steps.Judging.{meant}
use Rattle.clip_plan.proofs.Named.{few_back, counted_back, raised_back, counted_none, raised_none, raised_all}
use Rattle.clip_plan.proofs.naming.mark_by.Goals as goal

pub loop-left-init : goal.loop-left-init
loop-left-init c =
    let runs = c.args.runs.now in
    let queries = map tree_of c.args.queries.now in
    let terms = c.args.spots.now.terms in
    record {
      within = omega arith;
      few = omega arith;
      long = refl;
      counted = counted_none runs queries terms c.args.steps.now _ (omega arith);
      raised = λ k lt. raised_none runs queries terms c.args.steps.now c.args.spots.now.field k _
          (is_up (get_or c.args.flags.now k 0)) (omega arith);
    }

pub loop-left-preserved : goal.loop-left-preserved
loop-left-preserved c =
    let runs = c.args.runs.now in
    let queries = map tree_of c.args.queries.now in
    let terms = c.args.spots.now.terms in
    let steps = c.args.steps.now in
    let left = c.loop-left.left in
    let before = c.loop-left.invariant in
    let moved = c.excluded_before-excluded.ensures runs queries terms in
    let few : c.excluded_before-excluded.result ≤ c.loop-left.excluded + 1 =
    few_back (meant runs queries terms _) c.loop-left.excluded c.excluded_before-excluded.result moved in
    record {
      within = omega arith;
      few = omega (arith, few);
      long = c.mark_step.ensures.long ∙ before.long;
      counted = counted_back runs queries terms steps (left - 1) left _ c.loop-left.excluded _ (omega arith)
          before.within before.counted moved;
      raised = λ k lt. raised_back runs queries terms steps c.args.spots.now.field k (left - 1) left _
          c.loop-left.excluded _ _ _ (omega arith) before.within before.counted (before.raised k lt)
          (c.mark_step.ensures.raised k (omega (arith, lt, before.long)));
    }

pub returns-clause-raised : goal.returns-clause-raised
returns-clause-raised c = λ tree plan k lt.
    raised_all c.args.runs.now (map tree_of c.args.queries.now) c.args.spots.now.terms c.args.steps.now
    c.args.spots.now.field k c.loop-left.left tree _ _ (omega arith) (c.loop-left.invariant.raised k lt) plan
