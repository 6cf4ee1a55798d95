use Rattle.std.proofs.Common.{map, ◌∙◌}
use Rattle.clip_grammar.specs.Tree.{tree_of}
use Rattle.clip_plan.proofs.Renumbering.{term_renamed, open_renamed, close_renamed, run_renamed, query_renamed}
use Rattle.clip_plan.proofs.renaming.Renaming.add_step.Goals as goal

pub returns-in_ok-push-in-Term-clause-added : goal.returns-in_ok-push-in-Term-clause-added
returns-in_ok-push-in-Term-clause-added c = λ terms.
    let source = c.args.self.now in
    term_renamed terms source.numbers.now source.runs.now c.args.runs.now (map tree_of source.queries.now)
    c.args.queries.now.items c.args.steps.now.items c.push.new.self.items
    c.in-Term.occur c.in-Term.number c.renumber.result c.args.step c.in-Term.is c.renumber.ensures
    c.in_ok-push-in-Term.ensures.items

pub returns-in_ok-push-in-Open-clause-added : goal.returns-in_ok-push-in-Open-clause-added
returns-in_ok-push-in-Open-clause-added c = λ terms.
    let source = c.args.self.now in
    open_renamed terms source.numbers.now source.runs.now c.args.runs.now (map tree_of source.queries.now)
    c.args.queries.now.items c.args.steps.now.items c.push-in-Open.new.self.items
    c.args.step c.in-Open.occur c.in-Open.inside c.in-Open.is c.in_ok-push-in-Open.ensures.items

pub returns-in_ok-push-in-Close-clause-added : goal.returns-in_ok-push-in-Close-clause-added
returns-in_ok-push-in-Close-clause-added c = λ terms.
    let source = c.args.self.now in
    close_renamed terms source.numbers.now source.runs.now c.args.runs.now (map tree_of source.queries.now)
    c.args.queries.now.items c.args.steps.now.items c.push-in-Close.new.self.items
    c.in-Close.occur c.args.step c.in-Close.is c.in_ok-push-in-Close.ensures.items

pub returns-in_ok-push-in-Phrase-2-clause-added : goal.returns-in_ok-push-in-Phrase-2-clause-added
returns-in_ok-push-in-Phrase-2-clause-added c = λ terms.
    let source = c.args.self.now in
    run_renamed terms source.numbers.now source.runs.now c.args.runs.now c.push-in-Phrase.new.self
    (map tree_of source.queries.now) c.args.queries.now.items c.args.steps.now.items
    c.push-in-Phrase-2.new.self.items
    c.in-Phrase.occur c.in-Phrase.place c.in_ok-new-in-Phrase.new c.deref.result.now c.get.result.now c.args.step
    c.in-Phrase.is c.get.ensures (c.deref.ensures.value ∙ c.in_ok-run-in-Phrase.ensures)
    c.in_ok-push-in-Phrase.ensures.ok (c.in_ok-new-in-Phrase.ensures
    ∙ c.len.ensures) c.in_ok-push-in-Phrase-2.ensures.items

pub returns-in_ok-query-in-Query-clause-added : goal.returns-in_ok-query-in-Query-clause-added
returns-in_ok-query-in-Query-clause-added c =
    let source = c.args.self.now in
    query_renamed c.add_query.result source.numbers.now source.runs.now c.args.runs.now
    (map tree_of source.queries.now) c.args.queries.now.items c.add_query.new.queries.items c.args.steps.now.items
    c.add_query.new.steps.items
    c.in-Query.occur c.in-Query.place c.in_ok-query-in-Query.query c.args.step c.in-Query.is
    c.in_ok-query-in-Query.ensures c.add_query.ensures.added
