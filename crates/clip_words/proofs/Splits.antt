-- The words of a text whose front is cut off.
use Rattle.std.proofs.Common.{◌≡◌, ℕ, ◌+◌, ◌-◌, ◌<◌, ◌≤◌, zero, suc, Bool, true, false, cond, not, ◌||◌}
use Rattle.std.proofs.Common.{List, [], ◌∷◌, ◌++◌, map, length, take, drop, slice_range, slice_index, encode_utf8_all}
use Rattle.std.proofs.Common.{refl, sym, ap, ap₂, ◌∙◌, arith}
use Rattle.std.proofs.Common.{append_assoc, append-nil, drop-drop, length-drop, inl, inr}
use Rattle.std.specs.Char.{is_ascii_alphanumeric}
use Rattle.std.specs.List.{list_all, list_any, filter}
use Rattle.std.specs.Str.{chars, IsUtf8, IsAscii, IsCharBoundary}
use Rattle.std.proofs.lemmas.Bool.{and_parts, and_from, ltb-true, cases_lt}
use Rattle.std.proofs.lemmas.Bool.Decides.{nat_tests}
use Rattle.std.proofs.lemmas.List.{map-append, drop_more, take_more, take-append-drop, take_all, drop_all}
use Rattle.std.proofs.lemmas.List.Elements.{filter-append}
use Rattle.std.proofs.lemmas.Str.{chars-nil, chars-append, chars-IsAscii, encodes-IsAscii, IsUtf8-take}
use Rattle.std.proofs.lemmas.Str.{IsCharBoundary-before_ascii, IsUtf8-from_ascii, IsAscii-append}
use Rattle.std.proofs.lemmas.Str.Ascii.{IsAscii-nil, IsAscii-cons}
use Rattle.ucd_table.proofs.Facts.{Stepped-below}
use Rattle.ucd_breaks.specs.WordBreak.{word_break}
use Rattle.ucd_breaks.proofs.Computing.{ucd_breaks}
use Rattle.ucd_breaks.proofs.WordBreakLemmas.{word_break_stepped}
use Rattle.unicode_segmentation.specs.Segments.{cut, segments, has_alphanumeric, is_alphanumeric}
use Rattle.unicode_segmentation.specs.Word.{is_word_break, words}
use Rattle.unicode_segmentation.proofs.AsciiLemmas.{is_alphanumeric_ascii}
use Rattle.unicode_segmentation.proofs.SegmentsLemmas.{attach}
use Rattle.unicode_segmentation.proofs.TextLemmas.{length-slice_range}
use Rattle.clip_words.specs.Steps.Fronts.{is_word_mark, is_separator, ends_word, IsSeam}
use Rattle.clip_words.specs.Words.{fold_of}
use Rattle.clip_words.proofs.Boundaries.{is_inert, is_named, Parts, Parts-inert, Parts-named, cut-seam}
use Rattle.clip_words.proofs.Boundaries.{is_plain, is_mark, plain_named, mark_named, plain_char, cut-plain, cut-marked}

-- ---- characters below 128

separator_inert : (c : ℕ) → is_separator c ≡ true → is_inert (word_break c) ≡ true
unfolding ucd_breaks
separator_inert c h =
    let below : c < 128 = ltb-true c 128 (and_parts _ _ h).0 in
    rw h at (Stepped-below word_break word_break_stepped (λ x v. not (is_separator x) || is_inert v) 128 refl c below)

other_named : (c : ℕ) → c < 128 → is_separator c ≡ false → is_named (word_break c) ≡ true
unfolding ucd_breaks
other_named c below h =
    rw h at (Stepped-below word_break word_break_stepped (λ x v. is_separator x || is_named v) 128 refl c below)

alphanumeric_below : (c : ℕ) → is_ascii_alphanumeric c ≡ true → c < 128
alphanumeric_below c h = grind (arith, nat_tests)

alphanumeric_plain : (c : ℕ) → is_ascii_alphanumeric c ≡ true → plain_char c ≡ true
unfolding ucd_breaks
alphanumeric_plain c h =
    rw h at (Stepped-below word_break word_break_stepped
    (λ x v. not (is_ascii_alphanumeric x) || is_plain v) 128 refl c (alphanumeric_below c h))

mark_below : (c : ℕ) → is_word_mark c ≡ true → c < 128
mark_below c h = grind (arith, nat_tests)

mark_is : (c : ℕ) → is_word_mark c ≡ true → is_mark (word_break c) ≡ true
unfolding ucd_breaks
mark_is c h =
    rw h at (Stepped-below word_break word_break_stepped (λ x v. not (is_word_mark x) || is_mark v) 128 refl c
    (mark_below c h))

-- ---- words

-- of pieces, each as its bytes, those that have a letter or a digit
abbrev found : List (List ℕ) → List (List ℕ)
found pieces = filter has_alphanumeric (map encode_utf8_all pieces)

words_found : (text cs : List ℕ) → chars text ≡ cs → words text ≡ found (cut is_word_break [] cs [])
unfolding segments
words_found text cs e = ap (λ t. found (cut is_word_break [] t [])) e

found-append : (ps qs : List (List ℕ)) → found (ps ++ qs) ≡ found ps ++ found qs
found-append ps qs =
    ap (filter has_alphanumeric) (map-append encode_utf8_all ps qs)
    ∙ filter-append has_alphanumeric (map encode_utf8_all ps) (map encode_utf8_all qs)

ascii_one : (c : ℕ) → c < 128 → IsAscii (c ∷ [])
ascii_one c below = IsAscii-cons c [] below IsAscii-nil

chars-ascii_first : (c : ℕ) (t : List ℕ) → c < 128 → chars (c ∷ t) ≡ c ∷ chars t
chars-ascii_first c t below =
    chars-append (c ∷ []) t (IsUtf8-from_ascii (c ∷ []) (ascii_one c below))
    ∙ ap (λ x. x ++ chars t) (chars-IsAscii (c ∷ []) (ascii_one c below))

chars-ascii_after : (xs : List ℕ) (c : ℕ) (t : List ℕ) → IsUtf8 xs → c < 128
    → chars (xs ++ c ∷ t) ≡ chars xs ++ c ∷ chars t
chars-ascii_after xs c t u below = chars-append xs (c ∷ t) u ∙ ap (λ x. chars xs ++ x) (chars-ascii_first c t below)

-- the words of a text that is cut there are those of the two parts
pub words-seam : (xs : List ℕ) (c d : ℕ) (ys : List ℕ) → IsUtf8 xs → c < 128 → d < 128
    → Parts (word_break c) (word_break d)
    → words (xs ++ c ∷ (d ∷ ys)) ≡ words (xs ++ c ∷ []) ++ words (d ∷ ys)
words-seam xs c d ys u low_c low_d h =
    words_found _ _
    (chars-ascii_after xs c (d ∷ ys) u low_c ∙ ap (λ t. chars xs ++ c ∷ t) (chars-ascii_first d ys low_d))
    ∙ ap found (cut-seam c d h [] (chars xs) (chars ys))
    ∙ found-append (cut is_word_break [] (chars xs ++ c ∷ []) []) (cut is_word_break [] (d ∷ chars ys) [])
    ∙ ap₂ ◌++◌ (sym
    (words_found (xs ++ c ∷ []) _ (chars-ascii_after xs c [] u low_c ∙ ap (λ t. chars xs ++ c ∷ t) chars-nil)))
    (sym (words_found (d ∷ ys) _ (chars-ascii_first d ys low_d)))

-- ---- texts below 128

all_ascii : (p : ℕ → Bool) → ((c : ℕ) → p c ≡ true → c < 128) → (xs : List ℕ) → list_all p xs ≡ true → IsAscii xs
all_ascii p low [] h = IsAscii-nil
all_ascii p low (x ∷ xs) h =
    let parts = and_parts _ _ h in IsAscii-cons x xs (low x parts.0) (all_ascii p low xs parts.1)

separator_below : (c : ℕ) → is_separator c ≡ true → c < 128
separator_below c h = ltb-true c 128 (and_parts _ _ h).0

encode-ascii : (xs : List ℕ) → IsAscii xs → encode_utf8_all xs ≡ xs
encode-ascii xs h = encodes-IsAscii xs h

-- the piece has a letter or a digit
plain_counts : (c : ℕ) (w : List ℕ) → list_all is_ascii_alphanumeric (c ∷ w) ≡ true
    → has_alphanumeric (encode_utf8_all (c ∷ w)) ≡ true
unfolding has_alphanumeric
plain_counts c w h =
    let ascii = all_ascii is_ascii_alphanumeric alphanumeric_below (c ∷ w) h in
    let first : is_ascii_alphanumeric c ≡ true = (and_parts _ _ h).0 in
    ap (λ t. list_any is_alphanumeric (chars t)) (encode-ascii (c ∷ w) ascii)
    ∙ ap (list_any is_alphanumeric) (chars-IsAscii (c ∷ w) ascii)
    ∙ ap (λ b. b || list_any is_alphanumeric w) (sym (is_alphanumeric_ascii c (alphanumeric_below c first)) ∙ first)

mark_counts_not : (m : ℕ) → is_word_mark m ≡ true → has_alphanumeric (encode_utf8_all (m ∷ [])) ≡ false
unfolding has_alphanumeric
mark_counts_not m h =
    let ascii = ascii_one m (mark_below m h) in
    let dull : is_ascii_alphanumeric m ≡ false = grind (arith, nat_tests) in
    ap (λ t. list_any is_alphanumeric (chars t)) (encode-ascii (m ∷ []) ascii)
    ∙ ap (list_any is_alphanumeric) (chars-IsAscii (m ∷ []) ascii)
    ∙ ap (λ b. b || false) (sym (is_alphanumeric_ascii m (mark_below m h)) ∙ dull)

plain_all : (w : List ℕ) → list_all is_ascii_alphanumeric w ≡ true → list_all plain_char w ≡ true
plain_all [] h = refl
plain_all (c ∷ w) h =
    let parts = and_parts _ _ h in rw (alphanumeric_plain c parts.0) (plain_all w parts.1)

words-plain : (c : ℕ) (w : List ℕ) → list_all is_ascii_alphanumeric (c ∷ w) ≡ true → words (c ∷ w) ≡ (c ∷ w) ∷ []
words-plain c w h =
    let ascii = all_ascii is_ascii_alphanumeric alphanumeric_below (c ∷ w) h in
    words_found _ _ (chars-IsAscii (c ∷ w) ascii) ∙ ap found (cut-plain [] c w [] (plain_all (c ∷ w) h))
    ∙ ap (λ b. cond b (encode_utf8_all (c ∷ w) ∷ []) []) (plain_counts c w h)
    ∙ ap (λ t. t ∷ []) (encode-ascii (c ∷ w) ascii)

words-marked : (c : ℕ) (w : List ℕ) (m : ℕ) → list_all is_ascii_alphanumeric (c ∷ w) ≡ true → is_word_mark m ≡ true
    → words (c ∷ (w ++ m ∷ [])) ≡ (c ∷ w) ∷ []
words-marked c w m h g =
    let ascii = all_ascii is_ascii_alphanumeric alphanumeric_below (c ∷ w) h in
    words_found _ _
    (chars-IsAscii (c ∷ (w ++ m ∷ [])) (IsAscii-append (c ∷ w) (m ∷ []) ascii (ascii_one m (mark_below m g))))
    ∙ ap found (cut-marked [] c w m (plain_all (c ∷ w) h) (mark_is m g))
    ∙ ap₂ (λ b r. cond b (encode_utf8_all (c ∷ w) ∷ cond r (encode_utf8_all (m ∷ []) ∷ []) [])
    (cond r (encode_utf8_all (m ∷ []) ∷ []) []))
    (plain_counts c w h) (mark_counts_not m g)
    ∙ ap (λ t. t ∷ []) (encode-ascii (c ∷ w) ascii)

-- ---- separators

abbrev all_separators : List (List ℕ) → Bool
all_separators = list_all (list_all is_separator)

attach_separators : (t : Bool) (c : ℕ) (ps : List (List ℕ)) → is_separator c ≡ true → all_separators ps ≡ true
    → all_separators (attach t (c ∷ []) ps) ≡ true
attach_separators true c ps h g = rw (h, g)
attach_separators false c [] h g = rw h
attach_separators false c (p ∷ ps) h g = rw h g

cut_separators : (b cs after : List ℕ) → list_all is_separator cs ≡ true
    → all_separators (cut is_word_break b cs after) ≡ true
unfolding cut
cut_separators b [] after h = refl
cut_separators b (c ∷ cs) after h =
    let parts = and_parts _ _ h in
    attach_separators (is_word_break (c ∷ b) (cs ++ after)) c _ parts.0 (cut_separators (c ∷ b) cs after parts.1)

none_counts : (xs : List ℕ) → list_all is_separator xs ≡ true → list_any is_alphanumeric xs ≡ false
none_counts [] h = refl
none_counts (x ∷ xs) h =
    let parts = and_parts _ _ h in
    let one : is_separator x ≡ true = parts.0 in
    let dull : is_ascii_alphanumeric x ≡ false = grind (arith, nat_tests) in
    ap₂ ◌||◌ (sym (is_alphanumeric_ascii x (separator_below x one)) ∙ dull) (none_counts xs parts.1)

piece_counts_not : (xs : List ℕ) → list_all is_separator xs ≡ true → has_alphanumeric (encode_utf8_all xs) ≡ false
unfolding has_alphanumeric
piece_counts_not xs h =
    let ascii = all_ascii is_separator separator_below xs h in
    ap (λ t. list_any is_alphanumeric (chars t)) (encode-ascii xs ascii)
    ∙ ap (list_any is_alphanumeric) (chars-IsAscii xs ascii) ∙ none_counts xs h

found_separators : (ps : List (List ℕ)) → all_separators ps ≡ true → found ps ≡ []
found_separators [] h = refl
found_separators (p ∷ ps) h =
    let parts = and_parts _ _ h in
    ap₂ (λ b rest. cond b (encode_utf8_all p ∷ rest) rest) (piece_counts_not p parts.0) (found_separators ps parts.1)

words-separators : (xs : List ℕ) → list_all is_separator xs ≡ true → words xs ≡ []
words-separators xs h =
    words_found _ _ (chars-IsAscii xs (all_ascii is_separator separator_below xs h))
    ∙ found_separators _ (cut_separators [] xs [] h)

-- ---- the front of a text

record Ends (p : ℕ → Bool) (xs : List ℕ) : Type 0 where
  front : List ℕ
  last : ℕ
  is : xs ≡ front ++ last ∷ []
  all : list_all p front ≡ true
  passes : p last ≡ true

ends : (p : ℕ → Bool) (x : ℕ) (xs : List ℕ) → list_all p (x ∷ xs) ≡ true → Ends p (x ∷ xs)
ends p x [] h = record { front = []; last = x; is = refl; all = refl; passes = (and_parts _ _ h).0 }
ends p x (y ∷ ys) h =
    let parts = and_parts _ _ h in
    let e = ends p y ys parts.1 in
    record {
      front = x ∷ e.front;
      last = e.last;
      is = ap (λ t. x ∷ t) e.is;
      all = and_from _ _ parts.0 e.all;
      passes = e.passes;
    }

-- words begin after separators that no other character follows at once
words-skip : (xs : List ℕ) (d : ℕ) (ys : List ℕ) → list_all is_separator xs ≡ true → d < 128 → is_separator d ≡ false
    → words (xs ++ d ∷ ys) ≡ words (d ∷ ys)
words-skip [] d ys h low g = refl
words-skip (x ∷ xs) d ys h low g =
    let e = ends is_separator x xs h in
    let ascii = all_ascii is_separator separator_below e.front e.all in
    ap (λ t. words (t ++ d ∷ ys)) e.is ∙ ap words (append_assoc e.front (e.last ∷ []) (d ∷ ys))
    ∙ words-seam e.front e.last d ys (IsUtf8-from_ascii e.front ascii) (separator_below e.last e.passes) low
    (Parts-inert _ _ (separator_inert e.last e.passes) (other_named d low g))
    ∙ ap (λ t. t ++ words (d ∷ ys)) (ap words (sym e.is) ∙ words-separators (x ∷ xs) h)

pub words-nil : words [] ≡ []
words-nil = words-separators [] refl

words-word : (c : ℕ) (w rest : List ℕ) → list_all is_ascii_alphanumeric (c ∷ w) ≡ true → ends_word rest ≡ true
    → words ((c ∷ w) ++ rest) ≡ (c ∷ w) ∷ words rest
words-word c w [] h g = ap words (append-nil (c ∷ w)) ∙ words-plain c w h ∙ ap (λ t. (c ∷ w) ∷ t) (sym words-nil)
words-word c w (d ∷ ds) h g =
    let e = ends is_ascii_alphanumeric c w h in
    let ascii = all_ascii is_ascii_alphanumeric alphanumeric_below e.front e.all in
    let separator : is_separator d ≡ true = g in
    ap (λ t. words (t ++ d ∷ ds)) e.is ∙ ap words (append_assoc e.front (e.last ∷ []) (d ∷ ds))
    ∙ words-seam e.front e.last d ds (IsUtf8-from_ascii e.front ascii) (alphanumeric_below e.last e.passes)
    (separator_below d separator)
    (Parts-named _ _ (plain_named _ (alphanumeric_plain e.last e.passes)) (separator_inert d separator))
    ∙ ap (λ t. t ++ words (d ∷ ds)) (ap words (sym e.is) ∙ words-plain c w h)

words-word_mark : (c : ℕ) (w : List ℕ) (m : ℕ) (rest : List ℕ) → list_all is_ascii_alphanumeric (c ∷ w) ≡ true
    → is_word_mark m ≡ true
    → ends_word rest ≡ true → words ((c ∷ w) ++ m ∷ rest) ≡ (c ∷ w) ∷ words rest
words-word_mark c w m [] h g k = words-marked c w m h g ∙ ap (λ t. (c ∷ w) ∷ t) (sym words-nil)
words-word_mark c w m (d ∷ ds) h g k =
    let ascii = all_ascii is_ascii_alphanumeric alphanumeric_below (c ∷ w) h in
    let separator : is_separator d ≡ true = k in
    words-seam (c ∷ w) m d ds (IsUtf8-from_ascii (c ∷ w) ascii) (mark_below m g) (separator_below d separator)
    (Parts-named _ _ (mark_named _ (mark_is m g)) (separator_inert d separator))
    ∙ ap (λ t. t ++ words (d ∷ ds)) (words-marked c w m h g)

-- ---- the front by its places

word_at : (s xs w rest : List ℕ) → s ≡ xs ++ (w ++ rest) → list_all is_separator xs ≡ true → 0 < length w
    → list_all is_ascii_alphanumeric w ≡ true → ends_word rest ≡ true → words s ≡ w ∷ words rest
word_at s xs [] rest e h some g k = absurd (omega arith)
word_at s xs (c ∷ w) rest e h some g k =
    let first : is_ascii_alphanumeric c ≡ true = (and_parts _ _ g).0 in
    let opens : is_separator c ≡ false = grind (arith, nat_tests) in
    ap words e ∙ words-skip xs c (w ++ rest) h (alphanumeric_below c first) opens ∙ words-word c w rest g k

marked_at : (s xs w : List ℕ) (m : ℕ) (rest : List ℕ) → s ≡ xs ++ (w ++ m ∷ rest) → list_all is_separator xs ≡ true
    → 0 < length w
    → list_all is_ascii_alphanumeric w ≡ true → is_word_mark m ≡ true → ends_word rest ≡ true
    → words s ≡ w ∷ words rest
marked_at s xs [] m rest e h some g k j = absurd (omega arith)
marked_at s xs (c ∷ w) m rest e h some g k j =
    let first : is_ascii_alphanumeric c ≡ true = (and_parts _ _ g).0 in
    let opens : is_separator c ≡ false = grind (arith, nat_tests) in
    ap words e ∙ words-skip xs c (w ++ m ∷ rest) h (alphanumeric_below c first) opens
    ∙ words-word_mark c w m rest g k j

-- a slice to the end
pub to_end : (s : List ℕ) (i : ℕ) → take (length s - i) (drop i s) ≡ drop i s
to_end s i = take_all (length s - i) (drop i s) (omega (arith, length-drop i s))

-- the text in three parts
in_three : (s : List ℕ) (i j : ℕ) → i ≤ j → s ≡ take i s ++ (slice_range s i j ++ drop j s)
in_three s i j le =
    let e : i + (j - i) ≡ j = omega arith in
    sym (take-append-drop i s) ∙ ap (λ t. take i s ++ t) (sym (take-append-drop (j - i) (drop i s))
    ∙ ap (λ t. slice_range s i j ++ t) (drop-drop (j - i) i s ∙ ap (λ n. drop n s) e))

-- letters and digits that stand between separators are one word
module _ (s : List ℕ) (i n : ℕ) (some : 0 < n) (skipped : list_all is_separator (take i s) ≡ true)
    (letters : list_all is_ascii_alphanumeric (take n (drop i s)) ≡ true) where
  pub front_letters : list_all is_ascii_alphanumeric (slice_range s i (i + n)) ≡ true
  front_letters =
      let width : i + n - i ≡ n = omega arith in
      ap (λ k. list_all is_ascii_alphanumeric (take k (drop i s))) width ∙ letters

  pub front_word : i + n ≤ length s → ends_word (drop (i + n) s) ≡ true
      → words s ≡ slice_range s i (i + n) ∷ words (drop (i + n) s)
  front_word le ends =
      let size = length-slice_range s i (i + n) le in
      word_at s (take i s) (slice_range s i (i + n)) (drop (i + n) s) (in_three s i (i + n) (omega arith)) skipped
      (omega arith) front_letters ends

  pub front_word_mark : i + n < length s → is_word_mark (slice_index s (i + n)) ≡ true
      → ends_word (drop (i + n + 1) s) ≡ true → words s ≡ slice_range s i (i + n) ∷ words (drop (i + n + 1) s)
  front_word_mark lt mark ends =
      let size = length-slice_range s i (i + n) (omega arith) in
      marked_at s (take i s) (slice_range s i (i + n)) (slice_index s (i + n)) (drop (i + n + 1) s)
      (in_three s i (i + n) (omega arith)
      ∙ ap (λ t. take i s ++ (slice_range s i (i + n) ++ t)) (drop_more s (i + n) 0 lt))
      skipped (omega arith) front_letters mark ends

front_text : (s : List ℕ) (k : ℕ) → IsUtf8 s → k < length s → IsSeam s k
    → words s ≡ words (take k s) ++ words (drop k s)
front_text s k u lt h =
    let some : 0 < k = h.0 in
    let i = k - 1 in
    let at : i + 1 ≡ k = omega arith in
    let c = slice_index s i in
    let d = slice_index s k in
    let below : c < 128 = separator_below c h.1 in
    let front : take i s ++ c ∷ [] ≡ take k s = sym (take_more s i 0 (omega arith)) ∙ ap (λ n. take n s) at in
    let rest : d ∷ drop (k + 1) s ≡ drop k s = sym (drop_more s k 0 lt) in
    let whole : s ≡ take i s ++ c ∷ (d ∷ drop (k + 1) s) =
    sym (take-append-drop k s) ∙ ap₂ ◌++◌ (sym front) (sym rest)
    ∙ append_assoc (take i s) (c ∷ []) (d ∷ drop (k + 1) s) in
    let utf8 = IsUtf8-take s i u (IsCharBoundary-before_ascii s i (omega arith) below) in
    ap words whole
    ∙ words-seam (take i s) c d (drop (k + 1) s) utf8 below h.2
    (Parts-inert _ _ (separator_inert c h.1) (other_named d h.2 h.3)) ∙ ap₂ (λ a b. words a ++ words b) front rest

-- a text may be cut where a separator and then another ASCII character stand, and at its end
pub cut_at : (s : List ℕ) (k : ℕ) → IsUtf8 s → (k < length s → IsSeam s k)
    → words s ≡ words (take k s) ++ words (drop k s)
cut_at s k u seam =
    elim (cases_lt k (length s)) [
      | inl lt ↦ front_text s k u lt (seam lt)
      | inr ge ↦
          sym (append-nil (words s))
          ∙ ap₂ (λ a b. a ++ b) (ap words (sym (take_all k s ge))) (sym words-nil ∙ ap words (sym (drop_all k s ge)))
    ]

first_passes : (p : ℕ → Bool) (d : ℕ) (t : List ℕ) (n : ℕ) → 0 < n → list_all p (take n (d ∷ t)) ≡ true → p d ≡ true
first_passes p d t zero some h = absurd (omega arith)
first_passes p d t (suc n) some h = (and_parts _ _ h).0

-- a text may be sliced before a letter or a digit
pub front_boundary : (s : List ℕ) (i n : ℕ) → 0 < n → i < length s
    → list_all is_ascii_alphanumeric (take n (drop i s)) ≡ true → IsCharBoundary s i
front_boundary s i n some lt h =
    IsCharBoundary-before_ascii s i lt (alphanumeric_below (slice_index s i)
    (first_passes is_ascii_alphanumeric (slice_index s i) (drop (i + 1) s) n some
    (sym (ap (λ t. list_all is_ascii_alphanumeric (take n t)) (drop_more s i 0 lt)) ∙ h)))

-- letters and digits are ASCII
pub letters_ascii : (xs : List ℕ) → list_all is_ascii_alphanumeric xs ≡ true → IsAscii xs
letters_ascii = all_ascii is_ascii_alphanumeric alphanumeric_below

-- the words so far, when those of a front are added
pub add_front : (done all left front back : List (List ℕ)) → done ++ map fold_of left ≡ all → left ≡ front ++ back
    → (done ++ map fold_of front) ++ map fold_of back ≡ all
add_front done all left front back h e =
    append_assoc done (map fold_of front) (map fold_of back)
    ∙ ap (λ t. done ++ t) (sym (map-append fold_of front back) ∙ ap (map fold_of) (sym e)) ∙ h

-- and when nothing is left
pub all_added : (done all : List (List ℕ)) (rest : List ℕ) → done ++ map fold_of (words rest) ≡ all → length rest ≡ 0
    → done ≡ all
all_added done all [] h e = sym (append-nil done) ∙ ap (λ t. done ++ map fold_of t) (sym words-nil) ∙ h
all_added done all (c ∷ cs) h e = absurd (omega arith)
