-- The spans of a text's words have the words, and stand apart.
use Rattle.std.proofs.Common.{◌≡◌, ℕ, ◌+◌, ◌<◌, ◌≤◌, Bool, true, false, cond, List, [], ◌∷◌, map, filter}
use Rattle.std.proofs.Common.{length, refl, sym, ap, ◌∙◌, arith}
use Rattle.std.specs.List.{All}
use Rattle.std.specs.Str.{IsUtf8}
use Rattle.std.proofs.lemmas.List.Elements.{All-filter, All-head, All-tail, All-nil, All-cons}
use Rattle.unicode_segmentation.specs.Segments.{with_offsets, has_alphanumeric}
use Rattle.unicode_segmentation.specs.Word.{is_word_break, word_bounds}
use Rattle.unicode_segmentation.proofs.SegmentsLemmas.{AllPieces, IsPieceOf, All-IsPieceOf, segments_nonempty}
use Rattle.clip_words.specs.Words.{fold_of, words_of}
use Rattle.clip_where.specs.Spans.{piece, span_at, spans_of, AreApart, IsBetweenCharacters}
use Rattle.clip_where.specs.declared.WordSpan.{WordSpan}

-- the pieces that have a letter or a number
abbrev kept : List (ℕ × List ℕ) → List (ℕ × List ℕ)
kept = filter (λ found. has_alphanumeric found.1)

-- ---- their bytes

pieces_kept : (n : ℕ) (ps : List (List ℕ))
    → map (λ (x : ℕ × List ℕ). x.1) (kept (with_offsets n ps)) ≡ filter has_alphanumeric ps
unfolding with_offsets
pieces_kept n [] = refl
pieces_kept n (p ∷ ps) = at (has_alphanumeric p) (pieces_kept (n + length p) ps)
  where
    at : (b : Bool)
        → map (λ (x : ℕ × List ℕ). x.1) (kept (with_offsets (n + length p) ps)) ≡ filter has_alphanumeric ps
        → map (λ (x : ℕ × List ℕ). x.1)
        (cond b ((n, p) ∷ kept (with_offsets (n + length p) ps)) (kept (with_offsets (n + length p) ps)))
        ≡ cond b (p ∷ filter has_alphanumeric ps) (filter has_alphanumeric ps)
    at true e = ap (λ qs. p ∷ qs) e
    at false e = e

folded_at : (text : List ℕ) (xs : List (ℕ × List ℕ)) → All (IsPieceOf text) xs
    → map (λ span. fold_of (piece text span)) (map span_at xs) ≡ map fold_of (map (λ (x : ℕ × List ℕ). x.1) xs)
folded_at text [] all = refl
folded_at text (x ∷ xs) all =
    let here = All-head (IsPieceOf text) x xs all in
    ap (λ bytes. fold_of bytes ∷ map (λ span. fold_of (piece text span)) (map span_at xs)) (sym here.bytes)
    ∙ ap (λ ws. fold_of x.1 ∷ ws) (folded_at text xs (All-tail (IsPieceOf text) x xs all))

pub all_pieces : (text : List ℕ) → IsUtf8 text → All (IsPieceOf text) (kept (with_offsets 0 (word_bounds text)))
all_pieces text utf8 = All-filter _ (IsPieceOf text) _ (All-IsPieceOf is_word_break text utf8)

pub folded_words : (text : List ℕ) → IsUtf8 text
    → map (λ span. fold_of (piece text span)) (spans_of text) ≡ words_of text
unfolding words_of
folded_words text utf8 = folded_at text _ (all_pieces text utf8) ∙ ap (map fold_of) (pieces_kept 0 (word_bounds text))

-- ---- their places

apart_from : (n m : ℕ) (spans : List WordSpan) → n ≤ m → AreApart m spans → AreApart n spans
apart_from n m [] le apart = tt
apart_from n m (span ∷ spans) le apart = (omega (arith, apart.0), apart.1, apart.2)

kept_apart : (n : ℕ) (ps : List (List ℕ)) → AllPieces (λ p. 0 < length p) ps
    → AreApart n (map span_at (kept (with_offsets n ps)))
unfolding with_offsets
kept_apart n [] some = tt
kept_apart n (p ∷ ps) some = at (has_alphanumeric p) (kept_apart (n + length p) ps some.1)
  where
    at : (b : Bool) → AreApart (n + length p) (map span_at (kept (with_offsets (n + length p) ps)))
        → AreApart n (map span_at
        (cond b ((n, p) ∷ kept (with_offsets (n + length p) ps)) (kept (with_offsets (n + length p) ps))))
    at true apart = (omega arith, omega (arith, some.0), apart)
    at false apart = apart_from n (n + length p) _ (omega arith) apart

pub spans_apart : (text : List ℕ) → AreApart 0 (spans_of text)
spans_apart text = kept_apart 0 (word_bounds text) (segments_nonempty is_word_break text)

whole_at : (text : List ℕ) (xs : List (ℕ × List ℕ)) → All (IsPieceOf text) xs
    → All (IsBetweenCharacters text) (map span_at xs)
whole_at text [] all = All-nil (IsBetweenCharacters text)
whole_at text (x ∷ xs) all =
    let here = All-head (IsPieceOf text) x xs all in
    All-cons (IsBetweenCharacters text) (span_at x) (map span_at xs) (here.start, here.end)
    (whole_at text xs (All-tail (IsPieceOf text) x xs all))

pub spans_whole : (text : List ℕ) → IsUtf8 text → All (IsBetweenCharacters text) (spans_of text)
spans_whole text utf8 = whole_at text _ (all_pieces text utf8)
