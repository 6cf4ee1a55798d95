use Rattle.std.proofs.Common.{[], ◌∷◌, get_or, sym, ap, ◌∙◌}
use Rattle.clip_terms.specs.Terms.{term_at}
use Rattle.clip_terms.proofs.Spotted.{not_its_word}
use Rattle.clip_plan.specs.Steps.Judging.{meant}
use Rattle.clip_plan.specs.Steps.Naming.{mark_names}
use Rattle.clip_plan.proofs.Named.{other_covered}
use Rattle.clip_plan.proofs.naming.step_may_name.Goals as goal

pub returns-in-Term : goal.returns-in-Term
returns-in-Term c unnamed runs queries k =
    let field = c.args.spots.now.field in
    let terms = c.args.spots.now.terms in
    let key = term_at terms c.in-Term.number in
    ap (λ step. mark_names field k (meant runs queries terms step)) c.in-Term.is
    ∙ not_its_word field.0 key (sym c.is_of_field.ensures ∙ unnamed) (get_or field.1 k [])

pub returns-in-Pair : goal.returns-in-Pair
returns-in-Pair c unnamed runs queries k =
    let field = c.args.spots.now.field in
    let terms = c.args.spots.now.terms in
    ap (λ step. mark_names field k (meant runs queries terms step)) c.in-Pair.is
    ∙ other_covered field (term_at terms c.in-Pair.first) (term_at terms c.in-Pair.field-2 ∷ []) k
    (sym c.is_of_field-in-Pair.ensures ∙ unnamed)
