use Rattle.std.proofs.Common.{◌≡◌, ◌++◌, drop, string_bytes}
use Rattle.clip_grammar.specs.Tokens.{text_of}
use Rattle.clip_syntax.proofs.lexer.text_of.Given as goal

abbrev pub invariant-loop-glyph : goal.invariant-loop-glyph
invariant-loop-glyph l = string_bytes l.text ++ text_of (drop l.glyph-index l.glyphs) ≡ text_of l.glyphs
