use Rattle.std.proofs.Common.{◌≡◌, length}
use Rattle.clip_grammar.specs.Steps.Lexer.{span_white}
use Rattle.clip_syntax.proofs.lexer.skip_white.Given as goal

abbrev pub invariant-loop-first : goal.invariant-loop-first
invariant-loop-first l = (span_white l.rest).1 ≡ (span_white l.text).1

abbrev pub decreases-loop-first : goal.decreases-loop-first
decreases-loop-first l = length l.rest
