use Rattle.std.proofs.Common.{◌≡◌, get_or, sym, ap, ◌∙◌}
use Rattle.clip_grammar.specs.Tokens.{char_of}
use Rattle.clip_grammar.specs.declared.glyph.Glyph.TheVariants.{Bare}
use Rattle.clip_syntax.proofs.Spelling.{text_more}
use Rattle.clip_syntax.proofs.lexer.text_of.Goals as goal
use Rattle.clip_syntax.proofs.lexer.text_of.Goals.{in-Bare, in-Escaped}

pub loop-glyph-preserved : goal.loop-glyph-preserved
loop-glyph-preserved c =
    let char : char_of (get_or c.args.glyphs.now c.loop-glyph.glyph-index (Bare 0)) ≡ c.match-glyph.c =
    elim c.match-glyph.branch [
      | in-Bare w ↦ ap char_of w.in-Bare.is ∙ sym w.c-is
      | in-Escaped w ↦ ap char_of w.in-Escaped.is ∙ sym w.c-is
    ] in
    text_more _ _ _ _ _ _ c.loop-glyph-test.true char c.in_ok-push.ensures.bytes ∙ c.loop-glyph.invariant
