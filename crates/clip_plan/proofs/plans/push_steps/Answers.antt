use Rattle.std.proofs.Common.{map}
use Rattle.clip_plan.specs.Steps.Plans.{mark_of}
use Rattle.clip_plan.proofs.Outlines.{outline_pushed}
use Rattle.clip_plan.proofs.plans.push_steps.Goals as goal

pub returns-in-Ok-clause-outlines : goal.returns-in-Ok-clause-outlines
returns-in-Ok-clause-outlines c = λ queries kept.
    outline_pushed (map (mark_of c.args.runs.now queries)) c.args.plans.now c.push-2.new.self c.args.steps.now
    c.args.outlines.now.items c.push.new.self.items c.of_plan.result c.in-Ok.ensures.ok c.in_ok-push.ensures.items
    (c.of_plan.ensures queries) kept
