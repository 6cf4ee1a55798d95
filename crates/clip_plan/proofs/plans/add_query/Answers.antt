use Rattle.std.proofs.Common.{arith}
use Rattle.clip_plan.proofs.Standing.{adds_query}
use Rattle.clip_plan.proofs.plans.add_query.Goals as goal

pub returns-clause-added : goal.returns-clause-added
returns-clause-added c = λ terms runs.
    adds_query terms runs c.args.queries.now.items c.push.new.self.items c.args.steps.now.items c.push-2.new.self.items
    c.args.occur c.args.query c.in_ok-place.place
    c.in_ok-push.ensures.items (omega (arith, c.in_ok-place.ensures, c.len.ensures, c.args.queries.now.ok))
    c.in_ok-push-2.ensures.items
