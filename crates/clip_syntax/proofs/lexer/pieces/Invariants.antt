use Rattle.std.proofs.Common.{◌≡◌, length}
use Rattle.clip_grammar.specs.Steps.Lexer.{pieces_at}
use Rattle.clip_syntax.specs.Steps.Glyphs.{class_test, glyphs_after}
use Rattle.clip_syntax.proofs.lexer.pieces.Given as goal

abbrev pub invariant-loop-glyph : goal.invariant-loop-glyph
invariant-loop-glyph l = glyphs_after l.glyphs.items (pieces_at (class_test l.place) l.rest)
    ≡ glyphs_after l.fn.glyphs.items (pieces_at (class_test l.place) l.text)

abbrev pub decreases-loop-glyph : goal.decreases-loop-glyph
decreases-loop-glyph l = length l.rest
