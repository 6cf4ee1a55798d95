use Rattle.std.proofs.Common.{◌≡◌, length}
use Rattle.clip_grammar.specs.Tokens.{has_operator}
use Rattle.clip_syntax.proofs.lexer.has_operator.Given as goal

abbrev pub invariant-loop-first : goal.invariant-loop-first
invariant-loop-first l = has_operator l.rest ≡ has_operator l.glyphs

abbrev pub decreases-loop-first : goal.decreases-loop-first
decreases-loop-first l = length l.rest
