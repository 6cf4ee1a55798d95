use Rattle.std.proofs.Common.{◌∙◌, arith}
use Rattle.clip_segment.proofs.Flagged.{flags_more}
use Rattle.clip_segment.proofs.kept_terms.set_all.Goals as goal

pub loop-number-preserved : goal.loop-number-preserved
loop-number-preserved c = record {
  long = c.set_flag.ensures.long ∙ c.loop-number.invariant.long;
  flags = λ n lt.
      flags_more n c.args.numbers.now c.loop-number.number-index _ _ _ _ c.loop-number-test.true
      (c.loop-number.invariant.flags n lt)
      (c.set_flag.ensures.flags n (omega (arith, lt, c.loop-number.invariant.long)));
}
