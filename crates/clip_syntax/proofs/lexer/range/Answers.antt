use Rattle.std.proofs.Common.{rules}
use Rattle.clip_syntax.specs.Steps.Ends.{range_tokens}
use Rattle.clip_syntax.proofs.Ranging.{range_is}
use Rattle.clip_syntax.proofs.lexer.range.Goals as goal

pub returns-in_default : goal.returns-in_default
unfolding range_tokens
returns-in_default c = rw (← range_is c.args.left c.args.text.now) (search rules)

pub returns-in_default-gap : goal.returns-in_default-gap
unfolding range_tokens
returns-in_default-gap c = rw (← range_is c.args.left c.args.text.now) (search rules)

pub returns-in_default-to : goal.returns-in_default-to
unfolding range_tokens
returns-in_default-to c = rw (← range_is c.args.left c.args.text.now) (search rules)

pub returns-in_default-gap-2 : goal.returns-in_default-gap-2
unfolding range_tokens
returns-in_default-gap-2 c = rw (← range_is c.args.left c.args.text.now) (search rules)

pub returns-in_default-2 : goal.returns-in_default-2
unfolding range_tokens
returns-in_default-2 c = rw (← range_is c.args.left c.args.text.now) (search rules)

pub returns-in_default-bracket : goal.returns-in_default-bracket
unfolding range_tokens
returns-in_default-bracket c = rw (← range_is c.args.left c.args.text.now) (search rules)

pub returns : goal.returns
unfolding range_tokens
returns c = rw (← range_is c.args.left c.args.text.now) (search rules)
