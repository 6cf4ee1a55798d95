use Rattle.std.proofs.Common.{arith}
use Rattle.std.proofs.lemmas.Bool.Decides.{nat_tests}
use Rattle.clip_syntax.proofs.lexer.is_white.Goals as goal

pub returns-in_default : goal.returns-in_default
returns-in_default c = grind (arith, nat_tests)

pub returns-in_default-2 : goal.returns-in_default-2
returns-in_default-2 c = grind (arith, nat_tests)
