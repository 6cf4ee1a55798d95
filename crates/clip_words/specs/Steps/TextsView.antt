-- Texts that lie in one longer text, as contracts see them, and what holds of them.
use Rattle.std.specs.Prelude.{◌≡◌, ℕ, ◌≤◌, List, map, length, take, slice_range, string_bytes}
use Rattle.std.specs.List.{All}
use Rattle.std.specs.Str.{IsCharBoundary}
use Rattle.clip_words.specs.declared.texts.Span.{Span}
use Rattle.clip_words.specs.declared.texts.Spans.{Spans}

-- the text of a span
abbrev pub text_in : List ℕ → Span → List ℕ
text_in all span = slice_range all span.start span.end

-- The span begins and ends between characters.
pub record IsSpan (all : List ℕ) (span : Span) : Type 0 where
  pub rises : span.start ≤ span.end
  pub from : IsCharBoundary all span.start
  pub upto : IsCharBoundary all span.end

-- the texts of the spans
abbrev pub texts_in : Spans → List (List ℕ)
texts_in s = map (text_in (string_bytes s.all)) s.spans.items

-- each of the spans lies in the text
abbrev pub AreSpans : Spans → Type 0
AreSpans s = All (IsSpan (string_bytes s.all)) s.spans.items

-- a text begins with another
abbrev pub BeginsWith : (front text : List ℕ) → Type 0
BeginsWith front text = take (length front) text ≡ front
