use Rattle.std.proofs.Common.{arith, ◌∙◌}
use Rattle.std.proofs.lemmas.Grind.{common_steps}
use Rattle.clip_grammar.specs.Tree.{tree_of}
use Rattle.clip_segment.proofs.WordKeys.{all_needed}
use Rattle.clip_segment.proofs.building.terms_of.Goals as goal

-- found by this tactic: it stands here so that no other is tried before it
pub loop-query-preserved : goal.loop-query-preserved
loop-query-preserved c = grind (arith, common_steps)

pub returns : goal.returns
returns c =
    c.in_ok-terms.ensures
    ∙ all_needed (λ k. tree_of k.query.now) c.args.queries.now c.loop-query.query-index _ c.loop-query-test.false
    c.loop-query.invariant
