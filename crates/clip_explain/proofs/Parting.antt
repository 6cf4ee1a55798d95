-- No word of a text has a parting sign behind its first byte.
use Rattle.std.proofs.Common.{◌≡◌, ℕ, ◌<◌, Bool, true, false, not, cond, ◌&&◌, ◌||◌, nat_lt, List, [], ◌∷◌}
use Rattle.std.proofs.Common.{◌++◌, map, filter, flat_map, length, drop, get_or, codes, unwrap_or, encode_utf8}
use Rattle.std.proofs.Common.{encode_utf8_all, append-nil, refl, sym, ap, subst, ◌∙◌, arith}
use Rattle.std.specs.List.{list_any, list_all}
use Rattle.std.specs.Str.{chars, IsUtf8, all_scalars}
use Rattle.std.proofs.lemmas.Bool.{and_parts, and_from, false≢true, not-true}
use Rattle.std.proofs.lemmas.Bool.Decides.{nat_tests, Decides-eqb}
use Rattle.std.proofs.lemmas.List.Elements.{All-from_get_or}
use Rattle.std.proofs.lemmas.List.Folds.{list_any-append, list_any_none}
use Rattle.std.proofs.lemmas.Slice.Eq.{starts_is}
use Rattle.std.proofs.lemmas.Str.{encode_ascii, inside_one, chars-encodes, scalars-chars}
use Rattle.std.proofs.Math.Bool.{and-false}
use Rattle.ucd_table.proofs.Computing.{tables}
use Rattle.ucd_table.proofs.RangedFacts.{values_ok, Stepped-at_values}
use Rattle.ucd_case.specs.CaseFolding.{full_folding, full_fold, or_itself}
use Rattle.ucd_case.proofs.CaseFoldingLemmas.{full_folding_stepped}
use Rattle.ucd_breaks.specs.WordBreak.{word_break, word_break_eq}
use Rattle.ucd_breaks.specs.declared.WordBreak.{WordBreak}
use Rattle.ucd_breaks.specs.declared.WordBreak.TheVariants.{Cr, Lf, Newline, Other}
use Rattle.ucd_breaks.proofs.Computing.{ucd_breaks}
use Rattle.ucd_emoji.specs.Binary.{is_extended_pictographic}
use Rattle.ucd_emoji.proofs.Computing.{ucd_emoji}
use Rattle.caseless.specs.Caseless.{default_case_fold}
use Rattle.unicode_segmentation.specs.Segments.{cut, segments, prepend, has_alphanumeric}
use Rattle.unicode_segmentation.specs.Word.{starts_with_half_flag, is_regional, break_by_pair, is_word_break, joins}
use Rattle.unicode_segmentation.specs.Word.{joins_flag, value_at, significant}
use Rattle.unicode_segmentation.proofs.SegmentsLemmas.{AllPieces}
use Rattle.clip_grammar.proofs.Fronts.{among_all}
use Rattle.clip_grammar.proofs.Booleans.{either}
use Rattle.clip_words.specs.Words.{fold_of, words_of}
use Rattle.clip_meaning.specs.Meaning.{begins_with}
use Rattle.clip_explain.specs.Certain.{is_parting, is_parted}

-- ---- signs

-- a parting sign has no part in a rule on words, and is in ASCII
pub other_sign : (c : ℕ) → is_parting c ≡ true
    → (word_break_eq (word_break c) Other && not (is_extended_pictographic c) && nat_lt c 128) ≡ true
unfolding is_parting ucd_breaks ucd_emoji
other_sign c parting =
    among_all (λ d. word_break_eq (word_break d) Other && not (is_extended_pictographic d) && nat_lt d 128)
    (codes "!#$%&()*+-/<=>?@[\\]^`{|}~") c refl parting

pub is_other : (b : WordBreak) → word_break_eq b Other ≡ true → b ≡ Other
is_other Other e = refl
is_other _ e = absurd (false≢true e)

-- no folding has one
unfolded : (c : ℕ) → list_all (λ d. not (is_parting d)) (full_folding c) ≡ true
unfolding tables values_ok full_folding_stepped is_parting
unfolded c = Stepped-at_values full_folding full_folding_stepped (λ v. list_all (λ d. not (is_parting d)) v) refl c

joins_none : (far left far_right : WordBreak) → joins far left Other far_right ≡ false
joins_none far left far_right = simp and-false

-- there is a boundary before it
breaks_before : (last : ℕ) (before : List ℕ) (c : ℕ) (after : List ℕ) → is_parting c ≡ true
    → is_word_break (last ∷ before) (c ∷ after) ≡ true
unfolding is_word_break
breaks_before last before c after parting =
    let facts =
    and_parts (word_break_eq (word_break c) Other
    && not (is_extended_pictographic c)) (nat_lt c 128) (other_sign c parting) in
    let parts = and_parts (word_break_eq (word_break c) Other) (not (is_extended_pictographic c)) facts.0 in
    let left = significant (last ∷ before) in
    let right = value_at (significant after) 0 in
    let other = is_other (word_break c) parts.0 in
    let flag : joins_flag (last ∷ before) c ≡ false =
    ap (λ (b : WordBreak). starts_with_half_flag left && is_regional b) other
    ∙ and-false (starts_with_half_flag left) in
    ap (λ (b : WordBreak). unwrap_or (break_by_pair (word_break last) b (is_extended_pictographic c))
    (not (joins (value_at left 1) (value_at left 0) b right || joins_flag (last ∷ before) c))) other
    ∙ ap (λ p. unwrap_or (break_by_pair (word_break last) Other p)
    (not (joins (value_at left 1) (value_at left 0) Other right || joins_flag (last ∷ before) c)))
    (not-true _ parts.1)
    ∙ at (word_break last) (value_at left 1) (value_at left 0) right _ flag
  where
    at : (l x y r : WordBreak) (f : Bool) → f ≡ false
        → unwrap_or (break_by_pair l Other false) (not (joins x y Other r || f)) ≡ true
    at Newline x y r f e = refl
    at Cr x y r f e = refl
    at Lf x y r f e = refl
    at _ x y r f e = ap (λ b. not (b || f)) (joins_none x y r) ∙ ap not e

-- ---- pieces

abbrev pub has_sign : List ℕ → Bool
has_sign = list_any is_parting

-- the characters may be a text, and none behind the first is a parting sign
record IsWhole (cs : List ℕ) : Type 0 where
  scalars : all_scalars cs ≡ true
  whole : is_parted cs ≡ false

-- the first piece begins with a character
pub record Begins (c : ℕ) (pieces : List (List ℕ)) : Type 0 where
  pub others : List ℕ
  pub later : List (List ℕ)
  pub is : pieces ≡ (c ∷ others) ∷ later

pub begins : (before : List ℕ) (c : ℕ) (cs after : List ℕ) → Begins c (cut is_word_break before (c ∷ cs) after)
unfolding cut
begins before c cs after = at (is_word_break (c ∷ before) (cs ++ after)) (cut is_word_break (c ∷ before) cs after)
  where
    at : (b : Bool) (pieces : List (List ℕ)) → Begins c (cond b ((c ∷ []) ∷ pieces) (prepend (c ∷ []) pieces))
    at true pieces = record { others = []; later = pieces; is = refl }
    at false [] = record { others = []; later = []; is = refl }
    at false (piece ∷ pieces) = record { others = piece; later = pieces; is = refl }

cut_whole : (before cs after : List ℕ) → all_scalars cs ≡ true → AllPieces IsWhole (cut is_word_break before cs after)
unfolding cut
cut_whole before [] after scalars = tt
cut_whole before (c ∷ []) after scalars = at (is_word_break (c ∷ before) after)
  where
    at : (b : Bool) → AllPieces IsWhole (cond b ((c ∷ []) ∷ []) (prepend (c ∷ []) []))
    at true = (record { scalars = scalars; whole = refl }, tt)
    at false = (record { scalars = scalars; whole = refl }, tt)
cut_whole before (c ∷ n ∷ ns) after scalars =
    let parts = and_parts _ (all_scalars (n ∷ ns)) scalars in
    at (is_word_break (c ∷ before) (n ∷ ns ++ after)) refl _ (begins (c ∷ before) n ns after)
    (and_from _ true parts.0 refl) (cut_whole (c ∷ before) (n ∷ ns) after parts.1)
  where
    -- a character that doesn't begin a piece is no parting sign
    joined : (b : Bool) → is_parting n ≡ b → is_word_break (c ∷ before) (n ∷ ns ++ after) ≡ false
        → is_parting n ≡ false
    joined false e k = e
    joined true e k = absurd (false≢true (sym k ∙ breaks_before c before n (ns ++ after) e))

    at : (b : Bool) → is_word_break (c ∷ before) (n ∷ ns ++ after) ≡ b → (pieces : List (List ℕ)) → Begins n pieces
        → all_scalars (c ∷ []) ≡ true → AllPieces IsWhole pieces
        → AllPieces IsWhole (cond b ((c ∷ []) ∷ pieces) (prepend (c ∷ []) pieces))
    at true e pieces first one all = (record { scalars = one; whole = refl }, all)
    at false e pieces first one all =
        let all' : AllPieces IsWhole ((n ∷ first.others) ∷ first.later) = subst (AllPieces IsWhole) first.is all in
        subst (λ ps. AllPieces IsWhole (prepend (c ∷ []) ps)) (sym first.is) (
          record {
            scalars = and_from _ _ (and_parts _ true one).0 all'.0.scalars;
            whole = ap
                (λ b. b || has_sign first.others) (joined (is_parting n) refl e) ∙ all'.0.whole;
          },
          all'.1,
        )

-- ---- folding

or_parts : (a b : Bool) → (a || b) ≡ false → (a ≡ false) × (b ≡ false)
or_parts true b e = absurd (false≢true (sym e))
or_parts false b e = (refl, e)

none_from_all : (cs : List ℕ) → list_all (λ d. not (is_parting d)) cs ≡ true → has_sign cs ≡ false
none_from_all [] all = refl
none_from_all (c ∷ cs) all =
    let parts = and_parts (not (is_parting c)) (list_all (λ d. not (is_parting d)) cs) all in
    ap (λ b. b || has_sign cs) (not-true _ parts.0) ∙ none_from_all cs parts.1

-- what a character that is no sign folds to has none
pub fold_signs : (c : ℕ) → is_parting c ≡ false → has_sign (full_fold c) ≡ false
fold_signs c plain = at (full_folding c) (none_from_all (full_folding c) (unfolded c))
  where
    at : (cs : List ℕ) → has_sign cs ≡ false → has_sign (or_itself c cs) ≡ false
    at [] e = ap (λ b. b || false) plain
    at (d ∷ ds) e = e

-- and none has one behind the first
fold_parted : (c : ℕ) → is_parted (full_fold c) ≡ false
fold_parted c = at (full_folding c) (none_from_all (full_folding c) (unfolded c))
  where
    at : (cs : List ℕ) → has_sign cs ≡ false → is_parted (or_itself c cs) ≡ false
    at [] e = refl
    at (d ∷ ds) e = (or_parts (is_parting d) (has_sign ds) e).1

both_false : (a b : Bool) → a ≡ false → b ≡ false → (a || b) ≡ false
both_false a b e f = ap (λ x. x || b) e ∙ f

all_fold_signs : (cs : List ℕ) → has_sign cs ≡ false → has_sign (flat_map full_fold cs) ≡ false
all_fold_signs [] none = refl
all_fold_signs (c ∷ cs) none =
    let parts = or_parts (is_parting c) (has_sign cs) none in
    list_any-append is_parting (full_fold c) (flat_map full_fold cs)
    ∙ both_false _ _ (fold_signs c parts.0) (all_fold_signs cs parts.1)

-- a list with others behind it that have no sign
parted_append : (cs ds : List ℕ) → is_parted cs ≡ false → has_sign ds ≡ false → is_parted (cs ++ ds) ≡ false
parted_append [] [] p none = refl
parted_append [] (d ∷ ds) p none = (or_parts (is_parting d) (has_sign ds) none).1
parted_append (c ∷ cs) ds p none = list_any-append is_parting cs ds ∙ both_false _ _ p none

fold_whole : (cs : List ℕ) → is_parted cs ≡ false → is_parted (flat_map full_fold cs) ≡ false
fold_whole [] whole = refl
fold_whole (c ∷ cs) whole =
    parted_append (full_fold c) (flat_map full_fold cs) (fold_parted c) (all_fold_signs cs whole)

-- ---- bytes

-- a character that is no sign has no byte that is one
pub encode_signs : (c : ℕ) → is_parting c ≡ false → has_sign (encode_utf8 c) ≡ false
encode_signs c plain = list_any_none is_parting (encode_utf8 c)
    (All-from_get_or (λ b. is_parting b ≡ false) (encode_utf8 c) 0
    (λ i lt. at i lt (is_parting (get_or (encode_utf8 c) i 0)) refl))
  where
    at : (i : ℕ) → i < length (encode_utf8 c) → (b : Bool) → is_parting (get_or (encode_utf8 c) i 0) ≡ b
        → is_parting (get_or (encode_utf8 c) i 0) ≡ false
    at i lt false e = e
    at i lt true e =
        let small = (and_parts _ (nat_lt (get_or (encode_utf8 c) i 0) 128) (other_sign _ e)).1 in
        let low : get_or (encode_utf8 c) i 0 < 128 = grind (arith, nat_tests) in
        let same = inside_one c [] (encode_utf8 c) i (sym (append-nil (encode_utf8 c))) lt low in
        ap is_parting (sym same) ∙ plain

all_encode_signs : (cs : List ℕ) → has_sign cs ≡ false → has_sign (encode_utf8_all cs) ≡ false
all_encode_signs [] none = refl
all_encode_signs (c ∷ cs) none =
    let parts = or_parts (is_parting c) (has_sign cs) none in
    list_any-append is_parting (encode_utf8 c) (encode_utf8_all cs)
    ∙ both_false _ _ (encode_signs c parts.0) (all_encode_signs cs parts.1)

parted_less : (cs : List ℕ) → has_sign cs ≡ false → is_parted cs ≡ false
parted_less [] none = refl
parted_less (c ∷ cs) none = (or_parts (is_parting c) (has_sign cs) none).1

encode_parted : (c : ℕ) → is_parted (encode_utf8 c) ≡ false
encode_parted c = at (is_parting c) refl
  where
    at : (b : Bool) → is_parting c ≡ b → is_parted (encode_utf8 c) ≡ false
    at false e = parted_less (encode_utf8 c) (encode_signs c e)
    at true e =
        let small = (and_parts _ (nat_lt c 128) (other_sign c e)).1 in
        let low : c < 128 = grind (arith, nat_tests) in
        ap is_parted (encode_ascii c low)

encode_whole : (cs : List ℕ) → is_parted cs ≡ false → is_parted (encode_utf8_all cs) ≡ false
encode_whole [] whole = refl
encode_whole (c ∷ cs) whole =
    parted_append (encode_utf8 c) (encode_utf8_all cs) (encode_parted c) (all_encode_signs cs whole)

-- ---- words

word_whole : (cs : List ℕ) → IsWhole cs → is_parted (fold_of (encode_utf8_all cs)) ≡ false
unfolding fold_of default_case_fold
word_whole cs piece =
    ap (λ ds. is_parted (encode_utf8_all (flat_map full_fold ds))) (chars-encodes cs piece.scalars)
    ∙ encode_whole (flat_map full_fold cs) (fold_whole cs piece.whole)

-- what a list with no sign behind the first begins with has none there either
parted_front : (front rest : List ℕ) → is_parted (front ++ rest) ≡ false → is_parted front ≡ false
parted_front [] rest whole = refl
parted_front (c ∷ cs) rest whole =
    (or_parts (has_sign cs) (has_sign rest) (sym (list_any-append is_parting cs rest) ∙ whole)).0

-- What no word of some pieces has, and with it nothing that it begins with, no front has that one of them begins with.
pub found_kept : (bad : List ℕ → Bool) (IsGood : List ℕ → Type 0)
    → ((front rest : List ℕ) → bad (front ++ rest) ≡ false → bad front ≡ false)
    → ((cs : List ℕ) → IsGood cs → bad (fold_of (encode_utf8_all cs)) ≡ false)
    → (front : List ℕ) (pieces : List (List ℕ)) → AllPieces IsGood pieces
    → list_any (begins_with front) (map fold_of (filter has_alphanumeric (map encode_utf8_all pieces))) ≡ true
    → bad front ≡ false
found_kept bad IsGood in_front in_word front [] all any = absurd (false≢true any)
found_kept bad IsGood in_front in_word front (cs ∷ pieces) all any =
    at (has_alphanumeric (encode_utf8_all cs)) any (found_kept bad IsGood in_front in_word front pieces all.1)
  where
    begun : (word : List ℕ) → begins_with front word ≡ true → bad word ≡ false → bad front ≡ false
    begun word starts none =
        let is = (starts_is Decides-eqb word front true (sym starts)).0 refl in
        in_front front (drop (length front) word) (ap bad (sym is) ∙ none)

    at : (b : Bool)
        → list_any (begins_with front)
        (map fold_of
        (cond b (encode_utf8_all cs ∷ filter has_alphanumeric (map encode_utf8_all pieces))
        (filter has_alphanumeric (map encode_utf8_all pieces)))) ≡ true
        → (list_any (begins_with front) (map fold_of (filter has_alphanumeric (map encode_utf8_all pieces))) ≡ true
        → bad front ≡ false)
        → bad front ≡ false
    at false any later = later any
    at true any later =
        either (begins_with front (fold_of (encode_utf8_all cs))) _ any
        (λ starts. begun (fold_of (encode_utf8_all cs)) starts (in_word cs all.0)) later

-- no word of a text begins with a front that has a sign behind its first byte
pub front_whole : (text front : List ℕ) → IsUtf8 text → list_any (begins_with front) (words_of text) ≡ true
    → is_parted front ≡ false
unfolding words_of segments
front_whole text front utf8 any =
    found_kept is_parted IsWhole parted_front word_whole front (cut is_word_break [] (chars text) [])
    (cut_whole [] (chars text) [] (scalars-chars text utf8)) any
