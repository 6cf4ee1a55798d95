use Rattle.std.proofs.Common.{map, sym, ap, ◌∙◌}
use Rattle.clip_grammar.specs.Tree.{tree_of}
use Rattle.clip_plan.specs.Steps.Judging.{mark_holds, meant}
use Rattle.clip_plan.proofs.judge.step_holds.Goals as goal

pub returns-in-Pair : goal.returns-in-Pair
returns-in-Pair c =
    c.has_run.ensures
    ∙ ap (λ step. mark_holds c.args.reading.now.article.fields
    (meant c.args.runs.now (map tree_of c.args.queries.now) c.args.reading.now.terms step)) (sym c.in-Pair.is)
