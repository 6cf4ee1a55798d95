-- Answered here, so that a wrong body is refused at once.
use Rattle.std.proofs.Common.{arith}
use Rattle.std.proofs.lemmas.Grind.{common_steps}
use Rattle.clip_engine.proofs.explained.add_span.Goals as goal

pub returns : goal.returns
returns c = grind (arith, common_steps)
