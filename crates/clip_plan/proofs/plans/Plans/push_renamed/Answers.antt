use Rattle.std.proofs.Common.{[], ◌∷◌, ◌++◌, map, sym, ap, ◌∙◌, unwrap_or, slice_get}
use Rattle.clip_grammar.specs.Tree.{tree_of}
use Rattle.clip_plan.specs.Plan.{decoded, renamed}
use Rattle.clip_plan.specs.Steps.Plans.{mark_of}
use Rattle.clip_plan.proofs.Outlines.{outlines_stay}
use Rattle.clip_plan.proofs.Renumbering.{mapped_at}
use Rattle.clip_plan.proofs.Standing.{places_left, places_pushed, marks_pushed}
use Rattle.clip_plan.proofs.plans.Plans.push_renamed.Goals as goal

pub invariant_of-self : goal.invariant_of-self
invariant_of-self c =
    let added = c.in-Ok.ensures.added [] in (
      places_left c.self.inside.steps c.push_steps.new.plans added.runs_grow added.queries_grow c.self.invariant.0
          c.in_err-push_steps-in-Ok.ensures.err,
      c.push_steps.ensures.outlines (map tree_of c.add_steps-added.new.queries.items)
          (outlines_stay c.self.inside.steps c.self.inside.outlines.items added.runs_grow added.queries_grow
          c.self.invariant.0 c.self.invariant.1),
    )

pub invariant_of-self-in-Ok : goal.invariant_of-self-in-Ok
invariant_of-self-in-Ok c =
    let added = c.in-Ok.ensures.added [] in (
      places_pushed c.self.inside.steps c.push_steps.new.plans c.deref-in-Ok.result.now c.new-steps.ensures.items added
          c.self.invariant.0 c.deref-in-Ok.ensures.value c.in_ok-push_steps-in-Ok.ensures.ok,
      c.push_steps.ensures.outlines (map tree_of c.add_steps-added.new.queries.items)
          (outlines_stay c.self.inside.steps c.self.inside.outlines.items added.runs_grow added.queries_grow
          c.self.invariant.0 c.self.invariant.1),
    )

pub returns-in-Ok : goal.returns-in-Ok
returns-in-Ok c = λ terms.
    let marks = map (mark_of c.other.inside.runs (map tree_of c.other.inside.queries.items)) in
    marks_pushed c.self.inside.steps c.push_steps.new.plans c.deref-in-Ok.result.now c.args.self.now
    c.new-steps.ensures.items (c.in-Ok.ensures.added terms) c.self.invariant.0 c.deref-in-Ok.ensures.value
    c.in_ok-push_steps-in-Ok.ensures.ok c.self.view_is
    ∙ ap (λ ms. map (decoded terms) c.args.self.now ++ decoded terms (renamed c.args.numbers.now ms) ∷ [])
    (ap (λ qs. map (mark_of c.other.inside.runs (map tree_of qs)) c.get-from.result.now) c.deref.ensures.value
    ∙ ap marks c.get-from.ensures
    ∙ sym (mapped_at marks c.other.inside.steps c.args.place [])
    ∙ ap (λ plans. unwrap_or (slice_get plans c.args.place) []) c.other.view_is)
