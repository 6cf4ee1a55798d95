use Rattle.std.proofs.Common.{sym, ap, arith}
use Rattle.std.proofs.lemmas.Bool.Decides.{nat_tests}
use Rattle.clip_grammar.specs.Tokens.{sign_token}
use Rattle.clip_syntax.proofs.lexer.sign_token.Goals as goal

pub returns-in-43 : goal.returns-in-43
unfolding sign_token
returns-in-43 c = sym (ap sign_token c.in-43.is)

pub returns-in-45 : goal.returns-in-45
unfolding sign_token
returns-in-45 c = sym (ap sign_token c.in-45.is)

pub returns-in-33 : goal.returns-in-33
unfolding sign_token
returns-in-33 c = sym (ap sign_token c.in-33.is)

pub returns-in-40 : goal.returns-in-40
unfolding sign_token
returns-in-40 c = sym (ap sign_token c.in-40.is)

pub returns-in-41 : goal.returns-in-41
unfolding sign_token
returns-in-41 c = sym (ap sign_token c.in-41.is)

pub returns-in_default : goal.returns-in_default
unfolding sign_token
returns-in_default c = grind (arith, nat_tests)
