use Rattle.clip_syntax.proofs.Ranging.{ending_bare}
use Rattle.clip_syntax.proofs.lexer.ending.Goals as goal

pub returns : goal.returns
returns c = rw (ending_bare c.args.text.now c.in-Some.first.now c.in-Some.rest.now c.in-Some.ensures.cases.0
    c.if-first-eq34.false) at c.bare_end.ensures
