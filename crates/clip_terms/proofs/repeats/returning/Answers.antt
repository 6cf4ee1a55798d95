use Rattle.std.proofs.Common.{arith}
use Rattle.clip_terms.proofs.Repeating.{returns_more}
use Rattle.clip_terms.proofs.repeats.returning.Goals as goal

pub loop-kept-preserved : goal.loop-kept-preserved
loop-kept-preserved c = record {
  more = omega arith;
  within = omega arith;
  returns =
      returns_more c.args.run.now c.args.at.start c.loop-kept.kept c.loop-kept.invariant.returns c.if-run-start.true;
}
