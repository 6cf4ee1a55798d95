use Rattle.std.proofs.Common.{ap, sym, ◌∙◌, [], ◌∷◌}
use Rattle.std.specs.Prelude.{Some}
use Rattle.clip_terms.specs.Reading.{has_key, has_run}
use Rattle.clip_terms.specs.Terms.{term_at}
use Rattle.clip_plan.specs.Steps.Outlines.{settled_by}
use Rattle.clip_plan.proofs.outline.Outline.settled.Goals as goal

pub returns-in-Pair : goal.returns-in-Pair
returns-in-Pair c =
    let reading = c.args.reading.now in
    ap Some c.has_run.ensures
    ∙ ap (settled_by (λ n. has_key reading.article.fields (term_at reading.terms n))
    (λ m n. has_run reading.article.fields (term_at reading.terms m ∷ term_at reading.terms n ∷ []))
    c.args.shares_key) (sym c.in-Pair.is)
