-- Ranges, as the lexer reads them: what it keeps of each part.
use Rattle.std.specs.Prelude.{ℕ, Bool, List, [], ◌∷◌, map, Option, Some, None, ◌==◌, if◌then◌else◌, codes, String}
use Rattle.std.specs.Prelude.{string_bytes}
use Rattle.std.specs.Global.{Global}
use Rattle.std.specs.Borrow.{Bor}
use Rattle.std.specs.Option.{option_map}
use Rattle.clip_grammar.specs.Lexemes.{RangeEnd, BareEnd, QuotedEnd}
use Rattle.clip_grammar.specs.Characters.{quotable_char, end_char}
use Rattle.clip_grammar.specs.Steps.Lexer.{pieces_at, span_white, gap_at, to_at, bracket_at, ending_at, ◌>>=◌}
use Rattle.clip_grammar.specs.Tokens.{Token, Range, End, Free, glyph_of, is_spelled, text_of, closing}
use Rattle.clip_grammar.specs.declared.glyph.Glyph.{Glyph}
use Rattle.clip_syntax.specs.Steps.Glyphs.{glyphs_after}

-- the text of a bare end, and none for a star as it stands
abbrev pub free_text : List Glyph → Option (List ℕ)
free_text gs = if is_spelled (codes "*") gs then None else Some (text_of gs)

abbrev pub end_text : RangeEnd → Option (List ℕ)
end_text (BareEnd ps) = free_text (map glyph_of ps)
end_text (QuotedEnd ps) = Some (text_of (map glyph_of ps))

-- the text of an end that the code has read, and what is left
abbrev pub text_and_rest : Option (String Global) × Bor (List ℕ) → Option (List ℕ) × List ℕ
text_and_rest found = (option_map string_bytes found.0, found.1.now)

abbrev pub end_text_and_rest : RangeEnd × List ℕ → Option (List ℕ) × List ℕ
end_text_and_rest found = (end_text found.0, found.1)

-- an end with this text, by whether its bracket lets it in
abbrev pub end_with : Bool → Option (List ℕ) → End
end_with closed None = Free
end_with closed (Some text) = closing closed text

-- a quoted end, of the glyphs after its opening quote and what is left
abbrev pub quoted_end_of : List Glyph × List ℕ → Option (Option (List ℕ) × List ℕ)
quoted_end_of (gs, []) = None
quoted_end_of ([], c ∷ cs) = None
quoted_end_of (g ∷ gs, c ∷ cs) = if c == 34 then Some (Some (text_of (g ∷ gs)), cs) else None

-- a bare end, of its glyphs and what is left
abbrev pub bare_end_of : List Glyph × List ℕ → Option (Option (List ℕ) × List ℕ)
bare_end_of ([], cs) = None
bare_end_of (g ∷ gs, cs) = if is_spelled (codes "TO") (g ∷ gs) then None else Some (free_text (g ∷ gs), cs)

-- an end at the start of a text, and what is left: a quoted one after its opening quote; a bare one
abbrev pub quoted_end_at : List ℕ → Option (Option (List ℕ) × List ℕ)
quoted_end_at cs = quoted_end_of (glyphs_after [] (pieces_at quotable_char cs))

abbrev pub bare_end_at : List ℕ → Option (Option (List ℕ) × List ℕ)
bare_end_at cs = bare_end_of (glyphs_after [] (pieces_at end_char cs))

-- the range after its opening bracket, and what is left
unfoldable pub range_tokens : ℕ → List ℕ → Option (List Token × List ℕ)
range_tokens left cs = do
  low ← option_map end_text_and_rest (ending_at (span_white cs).1)
  b ← option_map (λ (gap : List ℕ × List ℕ). gap.1) (gap_at low.1)
  to ← to_at b
  c ← option_map (λ (gap : List ℕ × List ℕ). gap.1) (gap_at to)
  high ← option_map end_text_and_rest (ending_at c)
  right ← bracket_at (span_white high.1).1
  Some (Range (end_with (left == 91) low.0) (end_with (right.0 == 93) high.0) ∷ [], right.1)
