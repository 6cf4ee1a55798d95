-- Answered here, so that a wrong body is refused at once.
use Rattle.std.proofs.Common.{arith}
use Rattle.std.proofs.lemmas.Grind.{common_steps}
use Rattle.clip_meaning.specs.Article.{fault_of}
use Rattle.clip_meaning.proofs.fault.fault_of.Goals as goal

pub returns-then-has_twice : goal.returns-then-has_twice
unfolding fault_of
returns-then-has_twice c = grind (arith, common_steps)
