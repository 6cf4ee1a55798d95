use Rattle.std.proofs.Common.{[], ◌++◌, map, sym, ap, ◌∙◌, unwrap_or, slice_get}
use Rattle.std.proofs.lemmas.Result.{on_ok_weaker}
use Rattle.clip_grammar.specs.Tree.{tree_of}
use Rattle.clip_plan.specs.Plan.{names}
use Rattle.clip_plan.specs.Steps.Plans.{mark_of}
use Rattle.clip_plan.proofs.Renumbering.{mapped_at}
use Rattle.clip_plan.proofs.plans.Plans.add_numbers.Goals as goal

pub returns : goal.returns
returns c =
    let queries = map tree_of c.self.inside.queries.items in
    let marks = map (mark_of c.self.inside.runs queries) in
    on_ok_weaker c.add_all_named.result (λ added.
    added queries
    ∙ ap (λ ms. c.args.numbers.now.items ++ names ms)
    (ap marks c.get.ensures ∙ sym (mapped_at marks c.self.inside.steps c.args.place [])
    ∙ ap (λ plans. unwrap_or (slice_get plans c.args.place) []) c.self.view_is))
    c.add_all_named.ensures
