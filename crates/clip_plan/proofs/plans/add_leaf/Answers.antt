use Rattle.std.proofs.Common.{refl, ap, ◌∙◌}
use Rattle.std.specs.Arc.{arc_str_bytes}
use Rattle.clip_grammar.specs.Tree.{Tree, tree_of, end_of}
use Rattle.clip_plan.proofs.Leaves.{tree_of_prefix, tree_of_span, tree_of_all, phrase_added, term_added, query_added}
use Rattle.clip_plan.proofs.plans.add_leaf.Goals as goal

pub returns-in_ok-push-in-Term-clause-added : goal.returns-in_ok-push-in-Term-clause-added
returns-in_ok-push-in-Term-clause-added c =
    term_added c.args.planner.now.terms.now c.args.runs.now c.args.queries.now.items c.args.steps.now.items
    c.push.new.self.items
    c.args.occur c.number_of.result c.args.query.now c.in-Term.field c.in-Term.word
    c.in-Term.is c.number_of.ensures c.in_ok-push-in-Term.ensures.items

pub returns-in-Phrase-clause-added : goal.returns-in-Phrase-clause-added
returns-in-Phrase-clause-added c =
    phrase_added c.add_phrase.result c.args.planner.now.terms.now c.args.runs.now c.add_phrase.new.runs
    c.args.queries.now.items
    c.args.steps.now.items c.add_phrase.new.steps.items c.args.occur c.args.query.now c.in-Phrase.field
    c.in-Phrase.words c.deref.result.now
    c.in-Phrase.is c.deref.ensures.value c.add_phrase.ensures.added

pub returns-in_ok-copy_query-in-Prefix-clause-added : goal.returns-in_ok-copy_query-in-Prefix-clause-added
returns-in_ok-copy_query-in-Prefix-clause-added c =
    let is = ap tree_of c.in-Prefix.is ∙ tree_of_prefix c.in-Prefix.field c.in-Prefix.front in
    query_added c.add_query.result c.args.planner.now.terms.now c.args.runs.now c.args.queries.now.items
    c.add_query.new.queries.items c.args.steps.now.items c.add_query.new.steps.items c.args.occur
    c.in_ok-copy_query-in-Prefix.field-0 c.args.query.now
    (Tree.Prefix (arc_str_bytes c.in-Prefix.field) (arc_str_bytes c.in-Prefix.front))
    (c.in_ok-copy_query-in-Prefix.ensures ∙ is) is refl c.add_query.ensures.added

pub returns-in_ok-copy_query-in-Span-clause-added : goal.returns-in_ok-copy_query-in-Span-clause-added
returns-in_ok-copy_query-in-Span-clause-added c =
    let is = ap tree_of c.in-Span.is ∙ tree_of_span c.in-Span.field c.in-Span.low c.in-Span.high in
    query_added c.add_query-in-Span.result c.args.planner.now.terms.now c.args.runs.now c.args.queries.now.items
    c.add_query-in-Span.new.queries.items c.args.steps.now.items c.add_query-in-Span.new.steps.items c.args.occur
    c.in_ok-copy_query-in-Span.field-0 c.args.query.now
    (Tree.Span (arc_str_bytes c.in-Span.field) (end_of c.in-Span.low) (end_of c.in-Span.high))
    (c.in_ok-copy_query-in-Span.ensures ∙ is) is refl c.add_query-in-Span.ensures.added

pub returns-in-All-clause-added : goal.returns-in-All-clause-added
returns-in-All-clause-added c =
    query_added c.add_query-in-All.result c.args.planner.now.terms.now c.args.runs.now c.args.queries.now.items
    c.add_query-in-All.new.queries.items c.args.steps.now.items c.add_query-in-All.new.steps.items c.args.occur _
    c.args.query.now
    Tree.All tree_of_all (ap tree_of c.in-All.is ∙ tree_of_all) refl c.add_query-in-All.ensures.added
