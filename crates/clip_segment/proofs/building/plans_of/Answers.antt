use Rattle.std.proofs.Common.{arith}
use Rattle.std.proofs.lemmas.Grind.{common_steps}
use Rattle.clip_grammar.specs.Tree.{tree_of}
use Rattle.clip_segment.proofs.Asked.{asked_parts, asked_terms}
use Rattle.clip_segment.proofs.building.plans_of.Goals as goal

pub push-requires : goal.push-requires
push-requires c =
    (asked_parts c.args.terms.now (tree_of c.query-item.result.query.now)
    (asked_terms (λ k. tree_of k.query.now) c.args.queries.now c.loop-query.query-index c.query-item.result
    c.args.terms.now c.loop-query-test.true c.query-item.is c.requires)).2

-- found by this tactic: they stand here so that no other is tried before it
pub loop-query-preserved : goal.loop-query-preserved
loop-query-preserved c = grind (arith, common_steps)

pub returns : goal.returns
returns c = grind (arith, common_steps)
