use Rattle.std.proofs.Common.{ap, ◌∙◌, map}
use Rattle.clip_plan.specs.Steps.Outlines.{outline}
use Rattle.clip_plan.proofs.Outlines.{settled_at}
use Rattle.clip_plan.proofs.plans.Plans.settled.Goals as goal

pub returns-in-Some : goal.returns-in-Some
returns-in-Some c =
    settled_at c.args.reading.now.terms c.args.reading.now.article.fields c.args.self.now c.deref.result.now
    c.args.place c.in-Some.outline.now c.args.shares_key c.settled.result
    (record {
      kept = c.deref.ensures.value ∙ c.self.invariant.1 ∙ ap (map outline) c.self.view_is;
      inside = c.in-Some.ensures.lookup.3.0;
      is = c.in-Some.ensures.lookup.1;
    })
    c.settled.ensures
