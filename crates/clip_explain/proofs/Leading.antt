-- No word of a text begins with a parting sign that an ASCII character follows.
use Rattle.std.proofs.Common.{◌≡◌, ℕ, ◌<◌, Bool, true, false, not, cond, ◌&&◌, ◌||◌, nat_lt, List, [], ◌∷◌, ◌++◌}
use Rattle.std.proofs.Common.{length, flat_map, get_or, unwrap_or, encode_utf8, encode_utf8_all, append-nil}
use Rattle.std.proofs.Common.{refl, sym, ap, subst, ◌∙◌, arith}
use Rattle.std.specs.Char.{to_ascii_lowercase}
use Rattle.std.specs.List.{list_any}
use Rattle.std.specs.Str.{chars, IsUtf8, all_scalars}
use Rattle.std.proofs.lemmas.Bool.{and_parts, and_from, false≢true, not-true, not-false}
use Rattle.std.proofs.lemmas.Bool.Decides.{nat_tests}
use Rattle.std.proofs.lemmas.Str.{encode_ascii, chars-encodes, scalars-chars, char_from_byte, length-encode}
use Rattle.std.proofs.lemmas.Str.{len_utf8_bounds}
use Rattle.std.proofs.Math.Bool.{and-false}
use Rattle.ucd_table.proofs.Computing.{tables}
use Rattle.ucd_table.proofs.TrieCheck.{all_below, all_below-at}
use Rattle.ucd_table.proofs.RangedFacts.{points_ok, Stepped-at_points}
use Rattle.ucd_case.specs.CaseFolding.{full_folding, full_fold, or_itself}
use Rattle.ucd_case.proofs.CaseFoldingLemmas.{full_folding_stepped, full_fold-ascii}
use Rattle.ucd_breaks.specs.WordBreak.{word_break, word_break_eq}
use Rattle.ucd_breaks.specs.declared.WordBreak.{WordBreak}
use Rattle.ucd_breaks.specs.declared.WordBreak.TheVariants.{Cr, Lf, Newline, Extend, Format, Zwj, Other}
use Rattle.ucd_breaks.proofs.Computing.{ucd_breaks}
use Rattle.ucd_emoji.specs.Binary.{is_extended_pictographic}
use Rattle.caseless.specs.Caseless.{default_case_fold}
use Rattle.unicode_segmentation.specs.Segments.{cut, segments, prepend}
use Rattle.unicode_segmentation.specs.Word.{starts_with_half_flag, is_regional, break_by_pair, is_word_break, joins}
use Rattle.unicode_segmentation.specs.Word.{is_ignored, value_at, significant}
use Rattle.unicode_segmentation.proofs.SegmentsLemmas.{AllPieces}
use Rattle.clip_words.specs.Words.{fold_of, words_of}
use Rattle.clip_meaning.specs.Meaning.{begins_with}
use Rattle.clip_explain.specs.Certain.{is_parting, is_led}
use Rattle.clip_explain.proofs.Parting.{other_sign, is_other, has_sign, Begins, begins, fold_signs, encode_signs}
use Rattle.clip_explain.proofs.Parting.{found_kept}

-- ---- what no boundary parts from a sign before it

joins_other : (far_left right far_right : WordBreak) → joins far_left Other right far_right ≡ false
joins_other far_left right far_right = simp and-false

sign_parts : (c : ℕ) → is_parting c ≡ true → (word_break c ≡ Other) × (c < 128)
sign_parts c parting =
    let facts = and_parts (word_break_eq (word_break c) Other && not (is_extended_pictographic c)) (nat_lt c 128)
    (other_sign c parting) in
    let parts = and_parts (word_break_eq (word_break c) Other) (not (is_extended_pictographic c)) facts.0 in
    (is_other (word_break c) parts.0, grind (arith, nat_tests))

-- it is of those that rules on words pass over
after_sign : (c : ℕ) (before : List ℕ) (n : ℕ) (after : List ℕ) → is_parting c ≡ true
    → is_word_break (c ∷ before) (n ∷ after) ≡ false → is_ignored (word_break n) ≡ true
unfolding is_word_break significant starts_with_half_flag
after_sign c before n after parting e =
    let rest = significant before in
    let right = value_at (significant after) 0 in
    let other = (sign_parts c parting).0 in
    at (word_break n) (is_extended_pictographic n) (value_at (Other ∷ rest) 1) right
    (sym (ap (λ (b : WordBreak). let left = cond (is_ignored b) rest (b ∷ rest) in
    unwrap_or (break_by_pair b (word_break n) (is_extended_pictographic n))
    (not (joins (value_at left 1) (value_at left 0) (word_break n) right
    || (starts_with_half_flag left && is_regional (word_break n))))) other) ∙ e)
  where
    at : (w : WordBreak) (p : Bool) (x r : WordBreak)
        → unwrap_or (break_by_pair Other w p) (not (joins x Other w r || false)) ≡ false → is_ignored w ≡ true
    at Extend p x r e = refl
    at Format p x r e = refl
    at Zwj p x r e = refl
    at Newline p x r e = absurd (false≢true (sym e))
    at Cr p x r e = absurd (false≢true (sym e))
    at Lf p x r e = absurd (false≢true (sym e))
    at w p x r e = absurd (false≢true (sym (sym (ap (λ b. not (b || false)) (joins_other x w r)) ∙ e)))

-- ---- pieces

-- a sign, and then a character that rules on words don't pass over
abbrev sign_then : List ℕ → Bool
sign_then (c ∷ d ∷ ds) = is_parting c && not (is_ignored (word_break d))
sign_then _ = false

record IsUnled (cs : List ℕ) : Type 0 where
  scalars : all_scalars cs ≡ true
  unled : sign_then cs ≡ false

cut_unled : (before cs after : List ℕ) → all_scalars cs ≡ true → AllPieces IsUnled (cut is_word_break before cs after)
unfolding cut
cut_unled before [] after scalars = tt
cut_unled before (c ∷ []) after scalars = at (is_word_break (c ∷ before) after)
  where
    at : (b : Bool) → AllPieces IsUnled (cond b ((c ∷ []) ∷ []) (prepend (c ∷ []) []))
    at true = (record { scalars = scalars; unled = refl }, tt)
    at false = (record { scalars = scalars; unled = refl }, tt)
cut_unled before (c ∷ n ∷ ns) after scalars =
    let parts = and_parts _ (all_scalars (n ∷ ns)) scalars in
    at (is_word_break (c ∷ before) (n ∷ ns ++ after)) refl _ (begins (c ∷ before) n ns after)
    (and_from _ true parts.0 refl) (cut_unled (c ∷ before) (n ∷ ns) after parts.1)
  where
    joined : (b : Bool) → is_parting c ≡ b → is_word_break (c ∷ before) (n ∷ ns ++ after) ≡ false
        → (is_parting c && not (is_ignored (word_break n))) ≡ false
    joined false e k = ap (λ b. b && not (is_ignored (word_break n))) e
    joined true e k =
        ap (λ b. is_parting c && not b) (after_sign c before n (ns ++ after) e k) ∙ and-false (is_parting c)

    at : (b : Bool) → is_word_break (c ∷ before) (n ∷ ns ++ after) ≡ b → (pieces : List (List ℕ)) → Begins n pieces
        → all_scalars (c ∷ []) ≡ true → AllPieces IsUnled pieces
        → AllPieces IsUnled (cond b ((c ∷ []) ∷ pieces) (prepend (c ∷ []) pieces))
    at true e pieces first one all = (record { scalars = one; unled = refl }, all)
    at false e pieces first one all =
        let all' : AllPieces IsUnled ((n ∷ first.others) ∷ first.later) = subst (AllPieces IsUnled) first.is all in
        subst (λ ps. AllPieces IsUnled (prepend (c ∷ []) ps)) (sym first.is) (
          record {
            scalars = and_from _ _ (and_parts _ true one).0 all'.0.scalars;
            unled = joined (is_parting c) refl e;
          },
          all'.1,
        )

-- ---- what is first, and what is second

abbrev begins_ascii : List ℕ → Bool
begins_ascii [] = false
begins_ascii (c ∷ cs) = nat_lt c 128

led_second : (c : ℕ) (cs : List ℕ) → begins_ascii cs ≡ false → is_led (c ∷ cs) ≡ false
led_second c [] e = refl
led_second c (d ∷ ds) e = ap (λ b. is_parting c && b) e ∙ and-false (is_parting c)

led_first : (c : ℕ) (cs : List ℕ) → is_parting c ≡ false → is_led (c ∷ cs) ≡ false
led_first c [] e = refl
led_first c (d ∷ ds) e = ap (λ b. b && nat_lt d 128) e

first_plain : (b d : Bool) → (b || d) ≡ false → b ≡ false
first_plain true d e = absurd (false≢true (sym e))
first_plain false d e = refl

unsigned_led : (cs ds : List ℕ) → 0 < length cs → has_sign cs ≡ false → is_led (cs ++ ds) ≡ false
unsigned_led [] ds some none = absurd (omega arith)
unsigned_led (c ∷ cs) ds some none = led_first c (cs ++ ds) (first_plain (is_parting c) (has_sign cs) none)

ascii_append : (cs ds : List ℕ) → 0 < length cs → begins_ascii cs ≡ false → begins_ascii (cs ++ ds) ≡ false
ascii_append [] ds some none = absurd (omega arith)
ascii_append (c ∷ cs) ds some none = none

led_front : (front rest : List ℕ) → is_led (front ++ rest) ≡ false → is_led front ≡ false
led_front [] rest e = refl
led_front (c ∷ []) rest e = refl
led_front (c ∷ d ∷ ds) rest e = e

-- ---- folding

-- no ASCII character is passed over
ascii_plain : (d : ℕ) → d < 128 → is_ignored (word_break d) ≡ false
unfolding tables all_below ucd_breaks
ascii_plain d low = not-true _ (all_below-at (λ k. not (is_ignored (word_break k))) 128 d refl low)

-- nor is one that folds to a text that begins in ASCII
folded_plain : (d : ℕ) → not (begins_ascii (full_folding d)) ≡ false → not (is_ignored (word_break d)) ≡ true
unfolding tables points_ok full_folding_stepped ucd_breaks
folded_plain d e =
    Stepped-at_points full_folding full_folding_stepped (λ v. not (begins_ascii v))
    (λ c v. not (is_ignored (word_break c))) refl d e

ignored_folds : (d : ℕ) → is_ignored (word_break d) ≡ true → begins_ascii (full_fold d) ≡ false
ignored_folds d ignored = at (full_folding d) refl
  where
    small : (b : Bool) → nat_lt d 128 ≡ b → b ≡ false
    small false e = refl
    small true e =
        let low : d < 128 = grind (arith, nat_tests) in
        absurd (false≢true (sym (ascii_plain d low) ∙ ignored))

    other : (x : ℕ) (xs : List ℕ) → full_folding d ≡ x ∷ xs → (b : Bool) → nat_lt x 128 ≡ b → b ≡ false
    other x xs is false e = refl
    other x xs is true e =
        let plain = folded_plain d (ap not (ap begins_ascii is ∙ e)) in
        absurd (false≢true (sym (not-true _ plain) ∙ ignored))

    at : (fs : List ℕ) → full_folding d ≡ fs → begins_ascii (or_itself d fs) ≡ false
    at [] is = small (nat_lt d 128) refl
    at (x ∷ xs) is = other x xs is (nat_lt x 128) refl

folded_some : (d : ℕ) → 0 < length (full_fold d)
folded_some d = at (full_folding d)
  where
    at : (fs : List ℕ) → 0 < length (or_itself d fs)
    at [] = omega arith
    at (x ∷ xs) = omega arith

fold_led : (cs : List ℕ) → sign_then cs ≡ false → is_led (flat_map full_fold cs) ≡ false
fold_led [] none = refl
fold_led (c ∷ cs) none = at (is_parting c) refl
  where
    behind : (ds : List ℕ) → is_parting c ≡ true → sign_then (c ∷ ds) ≡ false
        → is_led (to_ascii_lowercase c ∷ flat_map full_fold ds) ≡ false
    behind [] parting none = refl
    behind (d ∷ ds) parting none =
        let ignored = not-false _ (sym (ap (λ b. b && not (is_ignored (word_break d))) parting) ∙ none) in
        led_second (to_ascii_lowercase c) (full_fold d ++ flat_map full_fold ds)
        (ascii_append (full_fold d) (flat_map full_fold ds) (folded_some d) (ignored_folds d ignored))

    at : (b : Bool) → is_parting c ≡ b → is_led (full_fold c ++ flat_map full_fold cs) ≡ false
    at false plain = unsigned_led (full_fold c) (flat_map full_fold cs) (folded_some c) (fold_signs c plain)
    at true parting =
        ap (λ x. is_led (x ++ flat_map full_fold cs)) (full_fold-ascii c (sign_parts c parting).1)
        ∙ behind cs parting none

-- ---- bytes

encoded_some : (d : ℕ) → 0 < length (encode_utf8 d)
encoded_some d = omega (arith, length-encode d, (len_utf8_bounds d).0)

encode_high : (d : ℕ) → nat_lt d 128 ≡ false → begins_ascii (encode_utf8 d) ≡ false
encode_high d high = at (encode_utf8 d) refl
  where
    low : (b : ℕ) (bs : List ℕ) → encode_utf8 d ≡ b ∷ bs → (t : Bool) → nat_lt b 128 ≡ t → t ≡ false
    low b bs is false e = refl
    low b bs is true e =
        let small : b < 128 = grind (arith, nat_tests) in
        let first : get_or (encode_utf8 d) 0 0 ≡ b = ap (λ x. get_or x 0 0) is in
        let same = char_from_byte (encode_utf8 d) [] d (sym (append-nil (encode_utf8 d)))
        (subst (λ n. n < 128) (sym first) small) (encoded_some d) in
        sym e ∙ ap (λ n. nat_lt n 128) (sym first ∙ sym same) ∙ high

    at : (bs : List ℕ) → encode_utf8 d ≡ bs → begins_ascii bs ≡ false
    at [] is = refl
    at (b ∷ bs) is = low b bs is (nat_lt b 128) refl

encode_led : (cs : List ℕ) → is_led cs ≡ false → is_led (encode_utf8_all cs) ≡ false
encode_led [] none = refl
encode_led (c ∷ cs) none = at (is_parting c) refl
  where
    behind : (ds : List ℕ) → is_parting c ≡ true → is_led (c ∷ ds) ≡ false → is_led (c ∷ encode_utf8_all ds) ≡ false
    behind [] parting none = refl
    behind (d ∷ ds) parting none =
        let high = sym (ap (λ b. b && nat_lt d 128) parting) ∙ none in
        led_second c (encode_utf8 d ++ encode_utf8_all ds)
        (ascii_append (encode_utf8 d) (encode_utf8_all ds) (encoded_some d) (encode_high d high))

    at : (b : Bool) → is_parting c ≡ b → is_led (encode_utf8 c ++ encode_utf8_all cs) ≡ false
    at false plain = unsigned_led (encode_utf8 c) (encode_utf8_all cs) (encoded_some c) (encode_signs c plain)
    at true parting =
        ap (λ x. is_led (x ++ encode_utf8_all cs)) (encode_ascii c (sign_parts c parting).1) ∙ behind cs parting none

-- ---- words

word_unled : (cs : List ℕ) → IsUnled cs → is_led (fold_of (encode_utf8_all cs)) ≡ false
unfolding fold_of default_case_fold
word_unled cs piece =
    ap (λ ds. is_led (encode_utf8_all (flat_map full_fold ds))) (chars-encodes cs piece.scalars)
    ∙ encode_led (flat_map full_fold cs) (fold_led cs piece.unled)

-- no word of a text begins with a front that begins with a sign and an ASCII character
pub front_unled : (text front : List ℕ) → IsUtf8 text → list_any (begins_with front) (words_of text) ≡ true
    → is_led front ≡ false
unfolding words_of segments
front_unled text front utf8 any =
    found_kept is_led IsUnled led_front word_unled front (cut is_word_break [] (chars text) [])
    (cut_unled [] (chars text) [] (scalars-chars text utf8)) any
