use Rattle.std.proofs.Common.{map, length, sym, ap, ◌∙◌}
use Rattle.std.specs.List.{list_any}
use Rattle.clip_terms.specs.Terms.{term_at}
use Rattle.clip_terms.specs.Reading.{ReadingValue, has_run}
use Rattle.clip_terms.specs.Steps.Runs.{stands_among}
use Rattle.clip_terms.proofs.Runs.{lacks_numbers, run_stands}
use Rattle.clip_terms.proofs.Spotted.{some_number}
use Rattle.clip_terms.proofs.reading.Reading.has_run.Goals as goal

pub returns-then-not-has_all : goal.returns-then-not-has_all
returns-then-not-has_all c =
    sym (lacks_numbers c.args.self.now.article.fields c.args.self.now.terms c.args.run.now (sym c.has_all.ensures
    ∙ c.if-not-has_all.true))

pub returns : goal.returns
returns c =
    let inside = c.self.inside in
    c.stands_in_any.ensures
    ∙ ap (list_any (stands_among c.args.run.now)) c.deref.ensures.value
    ∙ ap (list_any (stands_among c.args.run.now)) c.self.invariant.fields
    ∙ run_stands inside.article.now.fields inside.terms.now c.self.invariant.strict c.args.run.now
    (sym c.is_empty.ensures ∙ c.if-is_empty.false)
    ∙ ap (λ (r : ReadingValue). has_run r.article.fields (map (term_at r.terms) c.args.run.now)) c.self.view_is

pub stands_in_any-requires : goal.stands_in_any-requires
stands_in_any-requires c = some_number (length c.args.run.now) (sym c.is_empty.ensures ∙ c.if-is_empty.false)
