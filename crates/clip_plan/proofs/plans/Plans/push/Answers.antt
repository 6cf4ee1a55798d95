use Rattle.std.proofs.Common.{map}
use Rattle.clip_grammar.specs.Tree.{tree_of}
use Rattle.clip_plan.proofs.Outlines.{outlines_stay}
use Rattle.clip_plan.proofs.Standing.{places_left, places_pushed, marks_pushed}
use Rattle.clip_plan.proofs.plans.Plans.push.Goals as goal

pub invariant_of-self : goal.invariant_of-self
invariant_of-self c =
    let added = c.in-Ok.ensures.added in (
      places_left c.self.inside.steps c.push_steps.new.plans added.runs_grow added.queries_grow c.self.invariant.0
          c.in_err-push_steps-in-Ok.ensures.err,
      c.push_steps.ensures.outlines (map tree_of c.add_plan-added.new.queries.items)
          (outlines_stay c.self.inside.steps c.self.inside.outlines.items added.runs_grow added.queries_grow
          c.self.invariant.0 c.self.invariant.1),
    )

pub invariant_of-self-in-Ok : goal.invariant_of-self-in-Ok
invariant_of-self-in-Ok c =
    let added = c.in-Ok.ensures.added in (
      places_pushed c.self.inside.steps c.push_steps.new.plans c.deref.result.now c.new-steps.ensures.items added
          c.self.invariant.0 c.deref.ensures.value c.in_ok-push_steps-in-Ok.ensures.ok,
      c.push_steps.ensures.outlines (map tree_of c.add_plan-added.new.queries.items)
          (outlines_stay c.self.inside.steps c.self.inside.outlines.items added.runs_grow added.queries_grow
          c.self.invariant.0 c.self.invariant.1),
    )

pub returns-in-Ok : goal.returns-in-Ok
returns-in-Ok c =
    marks_pushed c.self.inside.steps c.push_steps.new.plans c.deref.result.now c.args.self.now
    c.new-steps.ensures.items c.in-Ok.ensures.added c.self.invariant.0 c.deref.ensures.value
    c.in_ok-push_steps-in-Ok.ensures.ok c.self.view_is
