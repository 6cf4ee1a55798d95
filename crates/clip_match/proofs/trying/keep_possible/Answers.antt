use Rattle.std.proofs.Common.{arith, get_or, subst, sym}
use Rattle.std.specs.List.{All}
use Rattle.std.proofs.lemmas.Grind.{common_steps}
use Rattle.std.proofs.lemmas.List.Elements.{All-get_or, All-push}
use Rattle.clip_match.specs.Steps.Positions.{IsSharer}
use Rattle.clip_match.proofs.trying.keep_possible.Goals as goal

pub loop-position-preserved : goal.loop-position-preserved
loop-position-preserved c =
    let asked = c.args.reading.now in
    let i = c.loop-position.position-index in
    record {
      holding = grind (arith, common_steps);
      sharers = λ all.
          subst (All (IsSharer asked)) (sym c.in_ok-push.ensures.items)
          (All-push (IsSharer asked) c.loop-position.possible.items (get_or c.args.positions.now i 0)
          (c.loop-position.invariant.sharers all)
          (All-get_or (IsSharer asked) c.args.positions.now i 0 c.loop-position-test.true all));
      few = grind (arith, common_steps);
    }

-- found by this tactic: they stand here so that no other is tried before it
pub returns-clause-holding : goal.returns-clause-holding
returns-clause-holding c = grind (arith, common_steps)

pub loop-position-preserved-then-not-may_hold : goal.loop-position-preserved-then-not-may_hold
loop-position-preserved-then-not-may_hold c = record {
  holding = grind (arith, common_steps);
  sharers = c.loop-position.invariant.sharers;
  few = grind (arith, common_steps);
}
