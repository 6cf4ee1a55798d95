use Rattle.std.proofs.Common.{List, OnOk, IsTrue, sym, ap, ◌∙◌, subst}
use Rattle.clip_grammar.specs.Tree.{tree_of}
use Rattle.clip_extract.specs.Keys.{KeyValue}
use Rattle.clip_plan.specs.Plan.{Mark, plan_of, word_keys, are_terms}
use Rattle.clip_plan.specs.Steps.Plans.{Adds}
use Rattle.clip_plan.proofs.Bare.{bare_plan, bare_words}
use Rattle.clip_plan.proofs.Clauses.{group_left, child_words, clause_added, plan_added}
use Rattle.clip_plan.proofs.Leaves.{leaf_plan}
use Rattle.clip_plan.proofs.Standing.{adds_nothing, as_long, grows_not, longer}
use Rattle.clip_plan.proofs.plans.add_plan.Goals as goal

pub loop-occur-init : goal.loop-occur-init
loop-occur-init c = adds_nothing c.args.planner.now.terms.now c.args.runs.now c.args.runs.now c.args.queries.now.items
    c.args.queries.now.items c.args.steps.now.items (grows_not c.args.runs.now) (grows_not c.args.queries.now.items)

pub add_clause-requires : goal.add_clause-requires
add_clause-requires c =
    let cs = c.deref-occur-items.result.now in
    child_words c.args.planner.now.terms.now (tree_of c.args.query.now) cs c.loop-occur.occur-index
    c.loop-occur-item.result
    (group_left c.args.query.now c.bare.result.now c.in-Group.clauses cs c.bare.ensures c.in-Group.is
    c.deref-occur-items.ensures.value)
    c.requires c.loop-occur-test.true c.loop-occur-item.is

pub add_leaf-requires : goal.add_leaf-requires
add_leaf-requires c = record {
  leaf = c.in_default.not-Group;
  words = subst (λ (keys : List KeyValue). IsTrue (are_terms c.args.planner.now.terms.now keys))
      (sym (ap word_keys c.bare.ensures ∙ bare_words (tree_of c.args.query.now))) c.requires;
}

pub returns-in_default : goal.returns-in_default
returns-in_default c = record {
  runs = c.add_leaf.ensures.runs;
  queries = c.add_leaf.ensures.queries;
  added = subst (λ (ms : List (Mark KeyValue)). OnOk c.add_leaf.result
      (Adds c.args.planner.now.terms.now c.args.runs.now
      c.args.queries.now.items c.args.steps.now.items c.add_leaf.new.runs c.add_leaf.new.queries.items
      c.add_leaf.new.steps.items ms))
      (leaf_plan c.bare.result.now c.in_default.not-Group ∙ ap plan_of c.bare.ensures
      ∙ bare_plan (tree_of c.args.query.now)) c.add_leaf.ensures.added;
}

pub loop-occur-preserved : goal.loop-occur-preserved
loop-occur-preserved c =
    clause_added c.deref-occur-items.result.now c.loop-occur.occur-index c.loop-occur-item.result
    c.loop-occur-test.true c.loop-occur-item.is c.loop-occur.invariant c.in_ok-add_clause-in-Group.ensures.added

pub returns-in_err-add_clause-in-Group-clause-runs : goal.returns-in_err-add_clause-in-Group-clause-runs
returns-in_err-add_clause-in-Group-clause-runs c = as_long _ c.loop-occur.invariant.runs_grow c.add_clause.ensures.runs

pub returns-in_err-add_clause-in-Group-clause-queries : goal.returns-in_err-add_clause-in-Group-clause-queries
returns-in_err-add_clause-in-Group-clause-queries c =
    as_long _ c.loop-occur.invariant.queries_grow c.add_clause.ensures.queries

pub returns-after-loop-occur-clause-runs : goal.returns-after-loop-occur-clause-runs
returns-after-loop-occur-clause-runs c = longer c.loop-occur.invariant.runs_grow

pub returns-after-loop-occur-clause-queries : goal.returns-after-loop-occur-clause-queries
returns-after-loop-occur-clause-queries c = longer c.loop-occur.invariant.queries_grow

pub returns-after-loop-occur-clause-added : goal.returns-after-loop-occur-clause-added
returns-after-loop-occur-clause-added c =
    let cs = c.deref-occur-items.result.now in
    plan_added (tree_of c.args.query.now) cs c.loop-occur.occur-index
    (group_left c.args.query.now c.bare.result.now c.in-Group.clauses cs c.bare.ensures c.in-Group.is
    c.deref-occur-items.ensures.value)
    c.loop-occur-test.false c.loop-occur.invariant
