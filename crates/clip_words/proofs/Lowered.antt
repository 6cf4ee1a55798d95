-- Words in ASCII, where they lie in a text in lower case.
use Rattle.std.proofs.Common.{◌≡◌, ℕ, ◌+◌, ◌-◌, ◌<◌, ◌≤◌, ◌++◌, List, length, map, take, drop, get_or, slice_range}
use Rattle.std.proofs.Common.{sym, ap, subst, ◌∙◌, arith, drop-drop}
use Rattle.std.specs.Char.{to_ascii_lowercase}
use Rattle.std.specs.Str.{IsAscii, IsCharBoundary, IsUtf8}
use Rattle.std.proofs.lemmas.List.{get_or-take, get_or-drop, take-append-drop, take-map, drop-map, length-map}
use Rattle.std.proofs.lemmas.List.{length-take}
use Rattle.std.proofs.lemmas.Str.{IsCharBoundary-before_ascii, IsCharBoundary-after_ascii}
use Rattle.clip_words.specs.declared.fronts.FrontPart.{FrontPart}
use Rattle.clip_words.specs.declared.fronts.FrontPart.TheVariants.{Word, Text}
use Rattle.clip_words.specs.Steps.Fronts.{IsInside, IsLowered, IsRest}
use Rattle.clip_words.specs.Steps.TextsView.{BeginsWith}
use Rattle.clip_words.proofs.Folding.{lowered_ascii}
use Rattle.clip_words.proofs.PackedTexts.{kept_slice}

-- a text in ASCII begins and ends between characters of one where it stands
pub bounds : (all part : List ℕ) (from : ℕ) → IsUtf8 all → IsAscii part → 0 < length part
    → from + length part ≤ length all → slice_range all from (from + length part) ≡ part
    → IsCharBoundary all from × IsCharBoundary all (from + length part)
bounds all part from utf8 ascii some within stands =
    let last = length part - 1 in
    let end : from + last + 1 ≡ from + length part = omega (arith, some) in
    let start : from + 0 ≡ from = omega arith in
    let before : get_or all from 0 < 128 = subst (λ m. get_or all m 0 < 128) start (first 0 some) in
    let behind = IsCharBoundary-after_ascii all (from + last) utf8 (omega (arith, some, within))
    (first last (omega (arith, some))) in
    (IsCharBoundary-before_ascii all from (omega (arith, some, within)) before, subst (IsCharBoundary all) end behind)
  where
    first : (i : ℕ) → i < length part → get_or all (from + i) 0 < 128
    first i lt =
        let width : from + length part - from ≡ length part = omega arith in
        let read : get_or part i 0 ≡ get_or all (from + i) 0 =
        ap (λ xs. get_or xs i 0) (sym stands)
        ∙ get_or-take (from + length part - from) (drop from all) i 0 (omega (arith, lt, width))
        ∙ get_or-drop from all i 0 in
        subst (λ b. b < 128) read (ascii i)

-- a word that lies in a text in lower case begins and ends between characters
pub lowered_bounds : (all word : List ℕ) (from : ℕ) → IsUtf8 all → IsAscii word → 0 < length word
    → from + length word ≤ length all → slice_range all from (from + length word) ≡ map to_ascii_lowercase word
    → IsCharBoundary all from × IsCharBoundary all (from + length word)
lowered_bounds all word from utf8 ascii some within stands =
    let low = map to_ascii_lowercase word in
    let long : length low ≡ length word = length-map word to_ascii_lowercase in
    let there = bounds all low from utf8 (lowered_ascii word ascii) (omega (arith, long, some))
    (omega (arith, long, within))
    (ap (λ n. slice_range all from (from + n)) long ∙ stands) in
    (there.0, subst (λ n. IsCharBoundary all (from + n)) long there.1)

-- a word of what is left of a text lies in the text in lower case
pub lowered : (text rest all : List ℕ) (front : FrontPart) → IsRest text rest
    → BeginsWith (map to_ascii_lowercase text) all → IsInside rest front
    → IsLowered all (length text - length rest) front
lowered text rest all (Text part) left begins inside = tt
lowered text rest all (Word word start) left begins inside =
    let at = length text - length rest in
    let low = map to_ascii_lowercase text in
    let n = length word.now in
    let whole : all ≡ low ++ drop (length low) all =
    sym (take-append-drop (length low) all) ∙ ap (λ xs. xs ++ drop (length low) all) begins in
    let long : length low ≡ length text = length-map text to_ascii_lowercase in
    let size = ap length begins ∙ long in
    let end : at + start + n ≤ length text = omega (arith, left.0, inside.1) in
    let a : at + start + n - (at + start) ≡ start + n - start = omega arith in (
      inside.0,
      omega (arith, end, long, ap length begins, length-take (length low) all),
      ap (λ xs. slice_range xs (at + start) (at + start + n)) whole
          ∙ kept_slice low (drop (length low) all) (at + start) (at + start + n) (omega arith)
          (omega (arith, end, long))
          ∙ ap (take (at + start + n - (at + start))) (drop-map to_ascii_lowercase (at + start) text)
          ∙ take-map to_ascii_lowercase (at + start + n - (at + start)) (drop (at + start) text)
          ∙ ap (λ m. map to_ascii_lowercase (take m (drop (at + start) text))) a
          ∙ ap (λ xs. map to_ascii_lowercase (take (start + n - start) xs))
          (sym (drop-drop start at text) ∙ ap (drop start) (sym left.1))
          ∙ ap (map to_ascii_lowercase) (sym inside.2),
    )
