use Rattle.std.proofs.Common.{◌<◌, ◌++◌, List, [], ◌∷◌, OnOk, IsTrue, sym, ap, ◌∙◌, subst, arith}
use Rattle.clip_grammar.specs.Tree.{tree_of, nodes}
use Rattle.clip_extract.specs.Keys.{KeyValue}
use Rattle.clip_plan.specs.Plan.{Mark, clause_marks, word_keys, are_terms}
use Rattle.clip_plan.specs.Steps.Plans.{Adds}
use Rattle.clip_plan.specs.declared.step.Step.{Step}
use Rattle.clip_plan.specs.declared.step.Step.TheVariants as step
use Rattle.clip_plan.proofs.Bare.{bare_clause, bare_words}
use Rattle.clip_plan.proofs.Clauses.{group_left, child_words, child_nodes, clause_added, inside_count, group_closed}
use Rattle.clip_plan.proofs.Standing.{adds_nothing, grows_not, as_long, longer}
use Rattle.clip_plan.proofs.plans.+add_clause.Goals as goal

pub loop-occur-init : goal.loop-occur-init
loop-occur-init t c =
    let runs = c.args.runs.now in
    let queries = c.args.queries.now.items in
    subst (λ (l : List Step). Adds c.args.planner.now.terms.now runs queries
    (c.args.steps.now.items ++ step.Open c.args.occur 0 ∷ []) runs queries l [])
    (sym c.in_ok-push-in-Group.ensures.items)
    (adds_nothing c.args.planner.now.terms.now runs runs queries queries
    (c.args.steps.now.items ++ step.Open c.args.occur 0 ∷ []) (grows_not runs) (grows_not queries))

pub end_group-requires : goal.end_group-requires
end_group-requires t c = omega (
  arith,
  c.len-opening.ensures,
  inside_count c.args.steps.now.items
      (step.Open c.args.occur 0) c.loop-occur.invariant,
)

pub add_clause-requires : goal.add_clause-requires
add_clause-requires t c =
    let tree = tree_of c.args.query.now in
    let cs = c.deref-occur-items.result.now in
    let i = c.loop-occur.occur-index in
    let child = c.loop-occur-item.result in
    let left = group_left c.args.query.now c.bare.result.now c.in-Group.clauses cs c.bare.ensures c.in-Group.is
    c.deref-occur-items.ensures.value in
    let fewer : nodes (tree_of child.1) < nodes tree = child_nodes tree cs i child left c.loop-occur-test.true
    c.loop-occur-item.is in (
      omega (arith, fewer, c.decreases),
      child_words c.args.planner.now.terms.now tree cs i child left c.requires c.loop-occur-test.true
          c.loop-occur-item.is,
    )

pub add_leaf-requires : goal.add_leaf-requires
add_leaf-requires t c = record {
  leaf = c.in_default.not-Group;
  words = subst (λ (keys : List KeyValue). IsTrue (are_terms c.args.planner.now.terms.now keys))
      (sym (ap word_keys c.bare.ensures ∙ bare_words (tree_of c.args.query.now))) c.requires;
}

pub returns-in_default : goal.returns-in_default
returns-in_default t c = record {
  runs = c.add_leaf.ensures.runs;
  queries = c.add_leaf.ensures.queries;
  added = subst (λ (ms : List (Mark KeyValue)). OnOk c.add_leaf.result
      (Adds c.args.planner.now.terms.now c.args.runs.now
      c.args.queries.now.items c.args.steps.now.items c.add_leaf.new.runs c.add_leaf.new.queries.items
      c.add_leaf.new.steps.items ms))
      (ap (clause_marks c.args.occur) c.bare.ensures ∙ bare_clause c.args.occur (tree_of c.args.query.now))
      c.add_leaf.ensures.added;
}

pub loop-occur-preserved : goal.loop-occur-preserved
loop-occur-preserved t c =
    clause_added c.deref-occur-items.result.now c.loop-occur.occur-index c.loop-occur-item.result
    c.loop-occur-test.true c.loop-occur-item.is c.loop-occur.invariant c.in_ok-add_clause-in-Group.ensures.added

pub returns-in_err-add_clause-in-Group-clause-runs : goal.returns-in_err-add_clause-in-Group-clause-runs
returns-in_err-add_clause-in-Group-clause-runs t c = as_long _ c.loop-occur.invariant.runs_grow
    c.add_clause.ensures.runs

pub returns-in_err-add_clause-in-Group-clause-queries : goal.returns-in_err-add_clause-in-Group-clause-queries
returns-in_err-add_clause-in-Group-clause-queries t c = as_long _ c.loop-occur.invariant.queries_grow
    c.add_clause.ensures.queries

pub returns-after-loop-occur-clause-runs : goal.returns-after-loop-occur-clause-runs
returns-after-loop-occur-clause-runs t c = longer c.loop-occur.invariant.runs_grow

pub returns-after-loop-occur-clause-queries : goal.returns-after-loop-occur-clause-queries
returns-after-loop-occur-clause-queries t c = longer c.loop-occur.invariant.queries_grow

pub returns-after-loop-occur-clause-added : goal.returns-after-loop-occur-clause-added
returns-after-loop-occur-clause-added t c =
    let cs = c.deref-occur-items.result.now in
    group_closed c.end_group.result c.args.steps.now.items c.loop-occur.steps.items (tree_of c.args.query.now) cs
    c.loop-occur.occur-index c.args.occur (step.Open c.args.occur 0) c.len-opening.result
    c.end_group.new.steps.items
    (group_left c.args.query.now c.bare.result.now c.in-Group.clauses cs c.bare.ensures c.in-Group.is
    c.deref-occur-items.ensures.value)
    c.loop-occur-test.false (omega (arith, c.len-opening.ensures, c.args.steps.now.ok.0)) c.loop-occur.invariant
    c.end_group.ensures
