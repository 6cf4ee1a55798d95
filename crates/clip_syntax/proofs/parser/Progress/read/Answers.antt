-- Answered here, so that a wrong body is refused at once.
use Rattle.std.proofs.Common.{rules}
use Rattle.clip_grammar.specs.Steps.Parser.{accepts}
use Rattle.clip_syntax.proofs.parser.Progress.read.Goals as goal

pub returns-then-is_fresh-2-clause-accepts : goal.returns-then-is_fresh-2-clause-accepts
unfolding accepts
returns-then-is_fresh-2-clause-accepts c = search rules
