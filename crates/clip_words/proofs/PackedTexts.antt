-- Texts that lie in one longer text.
use Rattle.std.proofs.Common.{◌≡◌, ℕ, ◌-◌, ◌≤◌, ◌∷◌, [], ◌++◌, List, length, map, take, drop}
use Rattle.std.proofs.Common.{slice_range, refl, sym, ap, ap₂, subst, ◌∙◌, arith, length-append, length-drop}
use Rattle.std.specs.Str.{IsCharBoundary, IsUtf8}
use Rattle.std.specs.List.{All}
use Rattle.std.proofs.Math.Seq.{drop-append_seam}
use Rattle.std.proofs.lemmas.List.{drop-append-le, take-append-le, take_all}
use Rattle.std.proofs.lemmas.Str.{IsCharBoundary-from_drop, IsUtf8-append, IsUtf8-between, IsUtf8-drop}
use Rattle.std.proofs.lemmas.List.Elements.{All-head, All-tail, All-map, All-weaker}
use Rattle.clip_words.specs.Steps.TextsView.{text_in, IsSpan}
use Rattle.clip_words.specs.declared.texts.Span.{Span}

-- where a text may be cut it may also be cut with another behind it
pub bound_before : (text more : List ℕ) → IsUtf8 text → IsUtf8 more → (at : ℕ) → IsCharBoundary text at
    → IsCharBoundary (text ++ more) at
bound_before text more is are at bound =
    let within : at ≤ length (text ++ more) = let b = bound.0 in omega (arith, b, length-append text more) in
    IsCharBoundary-from_drop (text ++ more) at within
    (subst IsUtf8 (sym (drop-append-le at text more bound.0))
    (IsUtf8-append (drop at text) more (IsUtf8-drop text at is bound) are))

-- the text of a span stays where another text comes behind
pub kept_slice : (all more : List ℕ) (start end : ℕ) → start ≤ end → end ≤ length all
    → slice_range (all ++ more) start end ≡ slice_range all start end
kept_slice all more start end rises within =
    ap (take (end - start)) (drop-append-le start all more (omega (arith, rises, within)))
    ∙ take-append-le (end - start) (drop start all) more (omega (arith, within, rises, length-drop start all))

kept_text : (all more : List ℕ) (span : Span) → IsSpan all span → text_in (all ++ more) span ≡ text_in all span
kept_text all more span is = kept_slice all more span.start span.end is.rises is.upto.0

pub kept_texts : (all more : List ℕ) (spans : List Span) → All (IsSpan all) spans
    → map (text_in (all ++ more)) spans ≡ map (text_in all) spans
kept_texts all more [] each = refl
kept_texts all more (span ∷ spans) each =
    ap₂ (λ text texts. text ∷ texts) (kept_text all more span (All-head (IsSpan all) span spans each))
    (kept_texts all more spans (All-tail (IsSpan all) span spans each))

pub kept_spans : (all more : List ℕ) (spans : List Span) → IsUtf8 all → IsUtf8 more → All (IsSpan all) spans
    → All (IsSpan (all ++ more)) spans
kept_spans all more spans is are each = All-weaker (IsSpan all) (IsSpan (all ++ more)) (λ span here. record {
  rises = here.rises;
  from = bound_before all more is are span.start here.from;
  upto = bound_before all more is are span.end here.upto;
}) spans each

-- what comes behind a text
pub behind : (all more : List ℕ) → slice_range (all ++ more) (length all) (length (all ++ more)) ≡ more
behind all more =
    ap (take (length (all ++ more) - length all)) (drop-append_seam all more)
    ∙ take_all (length (all ++ more) - length all) more (omega (arith, length-append all more))

-- each text is in UTF-8
pub all_utf8 : (all : List ℕ) (spans : List Span) → IsUtf8 all → All (IsSpan all) spans
    → All IsUtf8 (map (text_in all) spans)
all_utf8 all spans is each = All-map IsUtf8 (text_in all) spans
    (All-weaker (IsSpan all) (λ span. IsUtf8 (text_in all span))
    (λ span here. IsUtf8-between all span.start span.end is here.rises here.from here.upto) spans each)
