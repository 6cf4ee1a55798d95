use Rattle.std.proofs.Common.{arith}
use Rattle.clip_syntax.proofs.Spelling.{bytes_more}
use Rattle.clip_explain.proofs.cutting.byte_len.Goals as goal

pub overflow_add-len : goal.overflow_add-len
overflow_add-len c = omega (arith, bytes_more _ _ _ c.loop-c-test.true c.c-item.is)

pub loop-c-preserved : goal.loop-c-preserved
loop-c-preserved c = omega (arith, bytes_more _ _ _ c.loop-c-test.true c.c-item.is)
