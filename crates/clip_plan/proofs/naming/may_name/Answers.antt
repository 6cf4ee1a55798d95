use Rattle.std.proofs.Common.{◌∙◌}
use Rattle.clip_plan.proofs.Named.{skipped}
use Rattle.clip_plan.proofs.naming.may_name.Goals as goal

pub loop-step-preserved : goal.loop-step-preserved
loop-step-preserved c = λ runs queries k.
    c.loop-step.invariant runs queries k
    ∙ skipped runs queries c.args.spots.now.terms c.args.steps.now c.args.spots.now.field k c.loop-step.step-index _
    c.loop-step-test.true (c.step_may_name.ensures c.if-step_may_name.false runs queries k)
