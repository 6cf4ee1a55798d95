use Rattle.std.proofs.Common.{◌≡◌, length}
use Rattle.clip_grammar.specs.Tokens.{ends_in_star}
use Rattle.clip_syntax.proofs.lexer.ends_in_star.Given as goal

abbrev pub invariant-loop-first : goal.invariant-loop-first
invariant-loop-first l = ends_in_star l.rest ≡ ends_in_star l.glyphs

abbrev pub decreases-loop-first : goal.decreases-loop-first
decreases-loop-first l = length l.rest
