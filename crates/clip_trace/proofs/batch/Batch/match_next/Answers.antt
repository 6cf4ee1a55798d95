-- Answered here, so that a wrong body is refused at once.
use Rattle.std.proofs.Common.{arith}
use Rattle.std.proofs.lemmas.Grind.{common_steps}
use Rattle.clip_trace.proofs.batch.Batch.match_next.Goals as goal

pub returns-clause-matched : goal.returns-clause-matched
returns-clause-matched c = grind (arith, common_steps)
