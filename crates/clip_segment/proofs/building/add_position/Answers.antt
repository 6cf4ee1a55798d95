use Rattle.std.proofs.Common.{arith, map, ap, ◌∙◌}
use Rattle.std.proofs.lemmas.Grind.{common_steps}
use Rattle.clip_segment.proofs.Asked.{key_term}
use Rattle.clip_segment.specs.Steps.Ends.{with_positions}
use Rattle.clip_segment.proofs.Ended.{next_taken}
use Rattle.clip_segment.proofs.building.add_position.Goals as goal

pub add_to_key-requires-clause-term : goal.add_to_key-requires-clause-term
add_to_key-requires-clause-term c =
    key_term c.args.terms.now c.args.keys.now c.loop-key.key-index c.key-item.result c.requires.terms
    c.loop-key-test.true c.key-item.is

pub loop-key-preserved : goal.loop-key-preserved
loop-key-preserved c = record {
  long = c.in_ok-add_to_key.ensures.long;
  lists = λ under fresh start.
      c.in_ok-add_to_key.ensures.added _ under fresh (c.loop-key.invariant.lists under fresh start)
      ∙ ap (λ ks. map (with_positions ks c.args.position under) c.args.terms.now)
      (next_taken c.args.keys.now c.loop-key.key-index c.key-item.result c.loop-key-test.true c.key-item.is);
}

-- found by this tactic: it stands here so that no other is tried before it
pub returns : goal.returns
returns c = grind (arith, common_steps)
