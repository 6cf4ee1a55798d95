-- Places at which the rules on words see nothing of the other side.
use Rattle.std.proofs.Common.{◌≡◌, ℕ, Bool, true, false, cond, not, ◌&&◌, ◌||◌, List, [], ◌∷◌, ◌++◌, unwrap_or}
use Rattle.std.proofs.Common.{refl, sym, ap, ap₂, ◌∙◌, append-nil}
use Rattle.std.specs.List.{list_all}
use Rattle.std.proofs.lemmas.Bool.{false≢true, and_parts, not-true}
use Rattle.ucd_table.proofs.TrieCheck.{all_below, all_below-at}
use Rattle.ucd_breaks.specs.WordBreak.{word_break, word_break_number, word_break_from_number}
use Rattle.ucd_breaks.specs.declared.WordBreak.{WordBreak}
use Rattle.ucd_breaks.specs.declared.WordBreak.TheVariants.{Cr, Lf, Newline, WSegSpace, DoubleQuote, Other}
use Rattle.ucd_breaks.specs.declared.WordBreak.TheVariants.{ALetter, Numeric, ExtendNumLet, MidLetter, MidNumLet}
use Rattle.ucd_breaks.specs.declared.WordBreak.TheVariants.{MidNum, SingleQuote, HebrewLetter, RegionalIndicator}
use Rattle.ucd_breaks.specs.declared.WordBreak.TheVariants.{Extend, Format, Zwj}
use Rattle.ucd_breaks.proofs.WordBreakLemmas.{word_break_from_number-word_break_number, word_break_number-lt}
use Rattle.ucd_emoji.specs.Binary.{is_extended_pictographic}
use Rattle.unicode_segmentation.specs.Segments.{cut}
use Rattle.unicode_segmentation.specs.Word.{break_by_pair, is_ignored, is_hebrew_letter, is_regional, joins}
use Rattle.unicode_segmentation.specs.Word.{joins_flag, significant, starts_with_half_flag, value_at, is_word_break}
use Rattle.unicode_segmentation.proofs.SegmentsLemmas.{attach}
use Rattle.unicode_segmentation.proofs.BoolLemmas.{and-false, or-false, or-true}

-- a value that no rule from WB5 on joins, but for a quote between letters of Hebrew
abbrev pub is_inert : WordBreak → Bool
is_inert Cr = true
is_inert Lf = true
is_inert Newline = true
is_inert WSegSpace = true
is_inert DoubleQuote = true
is_inert Other = true
is_inert _ = false

-- a value of letters, digits and marks below 128
abbrev pub is_named : WordBreak → Bool
is_named ALetter = true
is_named Numeric = true
is_named ExtendNumLet = true
is_named MidLetter = true
is_named MidNumLet = true
is_named MidNum = true
is_named SingleQuote = true
is_named _ = false

-- between characters of these values there is a boundary, and what stands before it or after it doesn't see across
pub record Parts (p q : WordBreak) : Type 0 where
  last_kept : is_ignored p ≡ false
  next_kept : is_ignored q ≡ false
  last_no_flag : is_regional p ≡ false
  next_no_flag : is_regional q ≡ false
  pair : (pictograph : Bool) → unwrap_or (break_by_pair p q pictograph) true ≡ true
  apart : (fl fr : WordBreak) → joins fl p q fr ≡ false
  unseen_behind : (r fr : WordBreak) → joins p q r fr ≡ joins Other q r fr
  unseen_ahead : (fl l : WordBreak) → joins fl l p q ≡ joins fl l p Other

-- joins with an inert value on the left
left-inert : (fl p r fr : WordBreak) → is_inert p ≡ true → is_hebrew_letter fl ≡ false → joins fl p r fr ≡ false
left-inert fl Cr r fr h g = simp (and-false, or-false)
left-inert fl Lf r fr h g = simp (and-false, or-false)
left-inert fl Newline r fr h g = simp (and-false, or-false)
left-inert fl WSegSpace r fr h g = simp (and-false, or-false)
left-inert fl DoubleQuote r fr h g = simp (g, and-false, or-false)
left-inert fl Other r fr h g = simp (and-false, or-false)
left-inert fl _ r fr h g = absurd (false≢true h)

-- the same where the right is no letter of Hebrew
left-inert_right : (fl p r fr : WordBreak) → is_inert p ≡ true → is_hebrew_letter r ≡ false → joins fl p r fr ≡ false
left-inert_right fl Cr r fr h g = simp (and-false, or-false)
left-inert_right fl Lf r fr h g = simp (and-false, or-false)
left-inert_right fl Newline r fr h g = simp (and-false, or-false)
left-inert_right fl WSegSpace r fr h g = simp (and-false, or-false)
left-inert_right fl DoubleQuote r fr h g = simp (g, and-false, or-false)
left-inert_right fl Other r fr h g = simp (and-false, or-false)
left-inert_right fl _ r fr h g = absurd (false≢true h)

right-inert : (fl l p fr : WordBreak) → is_inert p ≡ true → is_hebrew_letter fr ≡ false → joins fl l p fr ≡ false
right-inert fl l Cr fr h g = simp (and-false, or-false)
right-inert fl l Lf fr h g = simp (and-false, or-false)
right-inert fl l Newline fr h g = simp (and-false, or-false)
right-inert fl l WSegSpace fr h g = simp (and-false, or-false)
right-inert fl l DoubleQuote fr h g = simp (g, and-false, or-false)
right-inert fl l Other fr h g = simp (and-false, or-false)
right-inert fl l _ fr h g = absurd (false≢true h)

right-inert_left : (fl l p fr : WordBreak) → is_inert p ≡ true → is_hebrew_letter l ≡ false → joins fl l p fr ≡ false
right-inert_left fl l Cr fr h g = simp (and-false, or-false)
right-inert_left fl l Lf fr h g = simp (and-false, or-false)
right-inert_left fl l Newline fr h g = simp (and-false, or-false)
right-inert_left fl l WSegSpace fr h g = simp (and-false, or-false)
right-inert_left fl l DoubleQuote fr h g = simp (g, and-false, or-false)
right-inert_left fl l Other fr h g = simp (and-false, or-false)
right-inert_left fl l _ fr h g = absurd (false≢true h)

far_left-inert : (p l r fr : WordBreak) → is_inert p ≡ true → joins p l r fr ≡ joins Other l r fr
far_left-inert Cr l r fr h = refl
far_left-inert Lf l r fr h = refl
far_left-inert Newline l r fr h = refl
far_left-inert WSegSpace l r fr h = refl
far_left-inert DoubleQuote l r fr h = refl
far_left-inert Other l r fr h = refl
far_left-inert _ l r fr h = absurd (false≢true h)

far_right-inert : (fl l r p : WordBreak) → is_inert p ≡ true → joins fl l r p ≡ joins fl l r Other
far_right-inert fl l r Cr h = refl
far_right-inert fl l r Lf h = refl
far_right-inert fl l r Newline h = refl
far_right-inert fl l r WSegSpace h = refl
far_right-inert fl l r DoubleQuote h = refl
far_right-inert fl l r Other h = refl
far_right-inert fl l r _ h = absurd (false≢true h)

named_no_hebrew : (q : WordBreak) → is_named q ≡ true → is_hebrew_letter q ≡ false
named_no_hebrew HebrewLetter h = absurd (false≢true h)
named_no_hebrew _ h = refl

named_kept : (q : WordBreak) → is_named q ≡ true → is_ignored q ≡ false
named_kept Extend h = absurd (false≢true h)
named_kept Format h = absurd (false≢true h)
named_kept Zwj h = absurd (false≢true h)
named_kept _ h = refl

named_no_flag : (q : WordBreak) → is_named q ≡ true → is_regional q ≡ false
named_no_flag RegionalIndicator h = absurd (false≢true h)
named_no_flag _ h = refl

inert_kept : (q : WordBreak) → is_inert q ≡ true → is_ignored q ≡ false
inert_kept Extend h = absurd (false≢true h)
inert_kept Format h = absurd (false≢true h)
inert_kept Zwj h = absurd (false≢true h)
inert_kept _ h = refl

inert_no_flag : (q : WordBreak) → is_inert q ≡ true → is_regional q ≡ false
inert_no_flag RegionalIndicator h = absurd (false≢true h)
inert_no_flag _ h = refl

-- the pairs in one test, which computes
abbrev pairs_break : WordBreak → WordBreak → Bool
pairs_break p q = unwrap_or (break_by_pair p q true) true && unwrap_or (break_by_pair p q false) true

pair_from_both : (p q : WordBreak) → pairs_break p q ≡ true → (pictograph : Bool)
    → unwrap_or (break_by_pair p q pictograph) true ≡ true
pair_from_both p q h true = (and_parts _ _ h).0
pair_from_both p q h false = (and_parts _ _ h).1

-- no rule on pairs decides
abbrev pairs_open : WordBreak → WordBreak → Bool
pairs_open p q =
    pairs_break p q
    && (not (unwrap_or (break_by_pair p q true) false) && not (unwrap_or (break_by_pair p q false) false))

abbrev apart_test : WordBreak → WordBreak → Bool
apart_test p q = not ((is_inert p && is_named q) || (is_named p && is_inert q)) || pairs_break p q

abbrev within_test : WordBreak → WordBreak → Bool
within_test p q = not (is_named p && is_named q) || pairs_open p q

abbrev pair_test : WordBreak → WordBreak → Bool
pair_test p q = apart_test p q && within_test p q

-- the test passes at each two values
pairs_pass : (p q : WordBreak) → pair_test p q ≡ true
unfolding all_below
pairs_pass p q =
    let row : ℕ → Bool = λ i. all_below (λ j. pair_test (word_break_from_number i) (word_break_from_number j)) 19 in
    let rows : all_below row 19 ≡ true = refl in
    let one = all_below-at row 19 (word_break_number p) rows (word_break_number-lt p) in
    ap₂ pair_test (sym (word_break_from_number-word_break_number p))
    (sym (word_break_from_number-word_break_number q))
    ∙ all_below-at (λ j. pair_test (word_break_from_number (word_break_number p)) (word_break_from_number j)) 19
    (word_break_number q) one (word_break_number-lt q)

inert_then_named : (p q : WordBreak) → is_inert p ≡ true → is_named q ≡ true → pairs_break p q ≡ true
inert_then_named p q h g = rw (h, g) at (and_parts (apart_test p q) (within_test p q) (pairs_pass p q)).0

named_then_inert : (p q : WordBreak) → is_named p ≡ true → is_inert q ≡ true → pairs_break p q ≡ true
named_then_inert p q h g = rw (h, g, or-true) at (and_parts (apart_test p q) (within_test p q) (pairs_pass p q)).0

named_open : (p q : WordBreak) → is_named p ≡ true → is_named q ≡ true → pairs_open p q ≡ true
named_open p q h g = rw (h, g) at (and_parts (apart_test p q) (within_test p q) (pairs_pass p q)).1

named_pair : (p q : WordBreak) → is_named p ≡ true → is_named q ≡ true → (pictograph x : Bool)
    → unwrap_or (break_by_pair p q pictograph) x ≡ x
named_pair p q h g b true = pair_from_both p q (and_parts _ _ (named_open p q h g)).0 b
named_pair p q h g true false = not-true _ (and_parts _ _ (and_parts _ _ (named_open p q h g)).1).0
named_pair p q h g false false = not-true _ (and_parts _ _ (and_parts _ _ (named_open p q h g)).1).1

pub Parts-inert : (p q : WordBreak) → is_inert p ≡ true → is_named q ≡ true → Parts p q
Parts-inert p q h g = record {
  last_kept = inert_kept p h;
  next_kept = named_kept q g;
  last_no_flag = inert_no_flag p h;
  next_no_flag = named_no_flag q g;
  pair = pair_from_both p q (inert_then_named p q h g);
  apart = λ fl fr. left-inert_right fl p q fr h (named_no_hebrew q g);
  unseen_behind = λ r fr. far_left-inert p q r fr h;
  unseen_ahead = λ fl l. right-inert fl l p q h (named_no_hebrew q g) ∙ sym (right-inert fl l p Other h refl);
}

pub Parts-named : (p q : WordBreak) → is_named p ≡ true → is_inert q ≡ true → Parts p q
Parts-named p q h g = record {
  last_kept = named_kept p h;
  next_kept = inert_kept q g;
  last_no_flag = named_no_flag p h;
  next_no_flag = inert_no_flag q g;
  pair = pair_from_both p q (named_then_inert p q h g);
  apart = λ fl fr. right-inert_left fl p q fr g (named_no_hebrew p h);
  unseen_behind = λ r fr. left-inert p q r fr g (named_no_hebrew p h) ∙ sym (left-inert Other q r fr g refl);
  unseen_ahead = λ fl l. far_right-inert fl l p q g;
}

-- ---- the rule sees no further than these

sig-append : (xs ys : List ℕ) → significant (xs ++ ys) ≡ significant xs ++ significant ys
unfolding significant
sig-append [] ys = refl
sig-append (x ∷ xs) ys =
    ap (λ rest. cond (is_ignored (word_break x)) rest (word_break x ∷ rest)) (sig-append xs ys)
    ∙ at (is_ignored (word_break x)) (significant xs)
  where
    at : (b : Bool) (zs : List WordBreak)
        → cond b (zs ++ significant ys) (word_break x ∷ (zs ++ significant ys))
        ≡ cond b zs (word_break x ∷ zs) ++ significant ys
    at true zs = refl
    at false zs = refl

sig-kept : (c : ℕ) (cs : List ℕ) → is_ignored (word_break c) ≡ false
    → significant (c ∷ cs) ≡ word_break c ∷ significant cs
unfolding significant
sig-kept c cs h = ap (λ b. cond b (significant cs) (word_break c ∷ significant cs)) h

flag_behind : (vs : List WordBreak) (q : WordBreak) (xs ys : List WordBreak) → is_regional q ≡ false
    → starts_with_half_flag (vs ++ q ∷ xs) ≡ starts_with_half_flag (vs ++ q ∷ ys)
unfolding starts_with_half_flag
flag_behind [] q xs ys h =
    ap (λ b. b && not (starts_with_half_flag xs)) h ∙ sym (ap (λ b. b && not (starts_with_half_flag ys)) h)
flag_behind (v ∷ vs) q xs ys h = ap (λ b. is_regional v && not b) (flag_behind vs q xs ys h)

joins_behind : (vs : List WordBreak) (p q : WordBreak) (xs : List WordBreak) (r fr : WordBreak) → Parts p q
    → joins (value_at (vs ++ q ∷ (p ∷ xs)) 1) (value_at (vs ++ q ∷ (p ∷ xs)) 0) r fr
    ≡ joins (value_at (vs ++ q ∷ []) 1) (value_at (vs ++ q ∷ []) 0) r fr
joins_behind [] p q xs r fr h = h.unseen_behind r fr
joins_behind (v ∷ []) p q xs r fr h = refl
joins_behind (v ∷ (w ∷ vs)) p q xs r fr h = refl

value_ahead : (vs : List WordBreak) (p : WordBreak) (xs ys : List WordBreak)
    → value_at (vs ++ p ∷ xs) 0 ≡ value_at (vs ++ p ∷ ys) 0
value_ahead [] p xs ys = refl
value_ahead (v ∷ vs) p xs ys = refl

abbrev HasSome : List (List ℕ) → Type 0
HasSome ps = (q : List ℕ) × (qs : List (List ℕ)) × (ps ≡ q ∷ qs)

attach_some : (t : Bool) (x : List ℕ) (ps : List (List ℕ)) → HasSome (attach t x ps)
attach_some true x ps = (x, ps, refl)
attach_some false x [] = (x, [], refl)
attach_some false x (p ∷ ps) = (x ++ p, ps, refl)

attach-append : (t : Bool) (x : ℕ) (ps qs : List (List ℕ)) → HasSome ps
    → attach t (x ∷ []) (ps ++ qs) ≡ attach t (x ∷ []) ps ++ qs
attach-append true x ps qs h = refl
attach-append false x [] qs h = absurd (cc h.2)
attach-append false x (p ∷ ps) qs h = refl

module _ (c d : ℕ) (h : Parts (word_break c) (word_break d)) where
  sig-behind : (vs b : List ℕ)
      → significant (vs ++ d ∷ (c ∷ b)) ≡ significant vs ++ word_break d ∷ (word_break c ∷ significant b)
  sig-behind vs b =
      sig-append vs (d ∷ (c ∷ b))
      ∙ ap (λ t. significant vs ++ t)
      (sig-kept d (c ∷ b) h.next_kept ∙ ap (λ t. word_break d ∷ t) (sig-kept c b h.last_kept))

  sig-alone : (vs : List ℕ) → significant (vs ++ d ∷ []) ≡ significant vs ++ word_break d ∷ []
  unfolding significant
  sig-alone vs = sig-append vs (d ∷ []) ∙ ap (λ t. significant vs ++ t) (sig-kept d [] h.next_kept)

  -- the rule at a place after d
  rule_behind : (vs b : List ℕ) (last : WordBreak) (n : ℕ) (ahead : WordBreak)
      → unwrap_or (break_by_pair last (word_break n) (is_extended_pictographic n))
      (not (joins (value_at (significant (vs ++ d ∷ (c ∷ b))) 1) (value_at (significant (vs ++ d ∷ (c ∷ b))) 0)
      (word_break n) ahead
      || joins_flag (vs ++ d ∷ (c ∷ b)) n))
      ≡ unwrap_or (break_by_pair last (word_break n) (is_extended_pictographic n))
      (not (joins (value_at (significant (vs ++ d ∷ [])) 1) (value_at (significant (vs ++ d ∷ [])) 0)
      (word_break n) ahead
      || joins_flag (vs ++ d ∷ []) n))
  rule_behind vs b last n ahead =
      let left : List WordBreak → Bool =
      λ v. unwrap_or (break_by_pair last (word_break n) (is_extended_pictographic n))
      (not (joins (value_at v 1) (value_at v 0) (word_break n) ahead
      || (starts_with_half_flag v && is_regional (word_break n)))) in
      let at : left (significant vs ++ word_break d ∷ (word_break c ∷ significant b))
      ≡ left (significant vs ++ word_break d ∷ []) =
      ap₂ (λ (j f : Bool). unwrap_or (break_by_pair last (word_break n) (is_extended_pictographic n))
      (not (j || (f && is_regional (word_break n)))))
      (joins_behind (significant vs) (word_break c) (word_break d) (significant b) (word_break n) ahead h)
      (flag_behind (significant vs) (word_break d) (word_break c ∷ significant b) [] h.next_no_flag) in
      ap left (sig-behind vs b) ∙ at ∙ sym (ap left (sig-alone vs))

  -- what stands before a place where a text may be cut changes no boundary after it
  same_behind : (vs b after : List ℕ) → is_word_break (vs ++ d ∷ (c ∷ b)) after ≡ is_word_break (vs ++ d ∷ []) after
  unfolding is_word_break
  same_behind [] b [] = refl
  same_behind [] b (n ∷ after) = rule_behind [] b (word_break d) n (value_at (significant after) 0)
  same_behind (v ∷ vs) b [] = refl
  same_behind (v ∷ vs) b (n ∷ after) = rule_behind (v ∷ vs) b (word_break v) n (value_at (significant after) 0)

  -- nor does what stands after it change one before it
  same_ahead : (x : ℕ) (b zs ys : List ℕ)
      → is_word_break (x ∷ b) (zs ++ c ∷ (d ∷ ys)) ≡ is_word_break (x ∷ b) (zs ++ c ∷ [])
  unfolding is_word_break significant
  same_ahead x b [] ys =
      let left = significant (x ∷ b) in
      let rule : Bool → Bool =
      λ j. unwrap_or (break_by_pair (word_break x) (word_break c) (is_extended_pictographic c))
      (not (j || joins_flag (x ∷ b) c)) in
      ap rule (ap (λ v. joins (value_at left 1) (value_at left 0) (word_break c) (value_at v 0))
      (sig-kept d ys h.next_kept)
      ∙ h.unseen_ahead (value_at left 1) (value_at left 0))
  same_ahead x b (z ∷ zs) ys =
      let left = significant (x ∷ b) in
      let rule : WordBreak → Bool =
      λ v. unwrap_or (break_by_pair (word_break x) (word_break z) (is_extended_pictographic z))
      (not (joins (value_at left 1) (value_at left 0) (word_break z) v || joins_flag (x ∷ b) z)) in
      let ends : (ts : List ℕ)
      → value_at (significant (zs ++ c ∷ ts)) 0 ≡ value_at (significant zs ++ word_break c ∷ significant ts) 0 =
      λ ts. ap (λ v. value_at v 0)
      (sig-append zs (c ∷ ts) ∙ ap (λ t. significant zs ++ t) (sig-kept c ts h.last_kept)) in
      ap rule (ends (d ∷ ys) ∙ value_ahead (significant zs) (word_break c) _ _ ∙ sym (ends []))

  -- there is a boundary
  seam_breaks : (b ys : List ℕ) → is_word_break (c ∷ b) (d ∷ ys) ≡ true
  unfolding is_word_break
  seam_breaks b ys =
      let pair = break_by_pair (word_break c) (word_break d) (is_extended_pictographic d) in
      let ahead = value_at (significant ys) 0 in
      ap (λ (v : List WordBreak). unwrap_or pair
      (not (joins (value_at v 1) (value_at v 0) (word_break d) ahead || joins_flag (c ∷ b) d)))
      (sig-kept c b h.last_kept)
      ∙ ap₂ (λ (j r : Bool). unwrap_or pair (not (j || (starts_with_half_flag (significant (c ∷ b)) && r))))
      (h.apart (value_at (significant b) 0) ahead) h.next_no_flag
      ∙ ap (λ (r : Bool). unwrap_or pair (not r)) (and-false (starts_with_half_flag (significant (c ∷ b))))
      ∙ h.pair (is_extended_pictographic d)

  cut-behind : (vs b ys : List ℕ)
      → cut is_word_break (vs ++ d ∷ (c ∷ b)) ys [] ≡ cut is_word_break (vs ++ d ∷ []) ys []
  unfolding cut
  cut-behind vs b [] = refl
  cut-behind vs b (y ∷ ys) =
      ap₂ (λ t ps. attach t (y ∷ []) ps) (same_behind (y ∷ vs) b (ys ++ [])) (cut-behind (y ∷ vs) b ys)

  pub cut-seam : (b xs ys : List ℕ)
      → cut is_word_break b (xs ++ c ∷ (d ∷ ys)) []
      ≡ cut is_word_break b (xs ++ c ∷ []) [] ++ cut is_word_break [] (d ∷ ys) []
  unfolding cut is_word_break
  cut-seam b [] ys =
      ap (λ t. attach t (c ∷ []) (cut is_word_break (c ∷ b) (d ∷ ys) [])) (seam_breaks b (ys ++ []))
      ∙ ap (λ ps. (c ∷ []) ∷ ps)
      (ap₂ (λ t ps. attach t (d ∷ []) ps) (same_behind [] b (ys ++ [])) (cut-behind [] b ys))
  cut-seam b (x ∷ xs) ys =
      ap₂ (λ t ps. attach t (x ∷ []) ps)
      (ap (is_word_break (x ∷ b)) (append-nil (xs ++ c ∷ (d ∷ ys))) ∙ same_ahead x b xs ys
      ∙ sym (ap (is_word_break (x ∷ b)) (append-nil (xs ++ c ∷ []))))
      (cut-seam (x ∷ b) xs ys)
      ∙ attach-append (is_word_break (x ∷ b) ((xs ++ c ∷ []) ++ [])) x (cut is_word_break (x ∷ b) (xs ++ c ∷ []) [])
      (cut is_word_break [] (d ∷ ys) []) (cut_some (x ∷ b) xs)
    where
      cut_some : (v zs : List ℕ) → HasSome (cut is_word_break v (zs ++ c ∷ []) [])
      cut_some v [] = attach_some (is_word_break (c ∷ v) []) (c ∷ []) []
      cut_some v (z ∷ zs) =
          attach_some (is_word_break (z ∷ v) ((zs ++ c ∷ []) ++ [])) (z ∷ [])
          (cut is_word_break (z ∷ v) (zs ++ c ∷ []) [])

-- ---- a run of letters and digits

abbrev pub is_plain : WordBreak → Bool
is_plain ALetter = true
is_plain Numeric = true
is_plain _ = false

abbrev pub is_mark : WordBreak → Bool
is_mark MidLetter = true
is_mark MidNumLet = true
is_mark MidNum = true
is_mark SingleQuote = true
is_mark _ = false

plain_joined : (p q : WordBreak) (fl fr : WordBreak) → is_plain p ≡ true → is_plain q ≡ true → joins fl p q fr ≡ true
plain_joined ALetter ALetter fl fr h g = refl
plain_joined ALetter Numeric fl fr h g = simp (and-false, or-false, or-true)
plain_joined Numeric ALetter fl fr h g = simp (and-false, or-false, or-true)
plain_joined Numeric Numeric fl fr h g = simp (and-false, or-false, or-true)
plain_joined ALetter _ fl fr h g = absurd (false≢true g)
plain_joined Numeric _ fl fr h g = absurd (false≢true g)
plain_joined _ q fl fr h g = absurd (false≢true h)

mark_last : (p q : WordBreak) (fl : WordBreak) → is_plain p ≡ true → is_mark q ≡ true → joins fl p q Other ≡ false
mark_last ALetter MidLetter fl h g = simp (and-false, or-false)
mark_last ALetter MidNumLet fl h g = simp (and-false, or-false)
mark_last ALetter MidNum fl h g = simp (and-false, or-false)
mark_last ALetter SingleQuote fl h g = simp (and-false, or-false)
mark_last Numeric MidLetter fl h g = simp (and-false, or-false)
mark_last Numeric MidNumLet fl h g = simp (and-false, or-false)
mark_last Numeric MidNum fl h g = simp (and-false, or-false)
mark_last Numeric SingleQuote fl h g = simp (and-false, or-false)
mark_last ALetter _ fl h g = absurd (false≢true g)
mark_last Numeric _ fl h g = absurd (false≢true g)
mark_last _ q fl h g = absurd (false≢true h)

pub plain_named : (p : WordBreak) → is_plain p ≡ true → is_named p ≡ true
plain_named ALetter h = refl
plain_named Numeric h = refl
plain_named _ h = absurd (false≢true h)

pub mark_named : (p : WordBreak) → is_mark p ≡ true → is_named p ≡ true
mark_named MidLetter h = refl
mark_named MidNumLet h = refl
mark_named MidNum h = refl
mark_named SingleQuote h = refl
mark_named _ h = absurd (false≢true h)

-- the rule between two named values
named_rule : (c : ℕ) (b : List ℕ) (n : ℕ) (after : List ℕ) → is_named (word_break c) ≡ true
    → is_named (word_break n) ≡ true
    → is_word_break (c ∷ b) (n ∷ after)
    ≡ not (joins (value_at (significant b) 0) (word_break c) (word_break n) (value_at (significant after) 0))
unfolding is_word_break
named_rule c b n after h g =
    let pair = break_by_pair (word_break c) (word_break n) (is_extended_pictographic n) in
    let ahead = value_at (significant after) 0 in
    let j = joins (value_at (significant b) 0) (word_break c) (word_break n) ahead in
    ap (λ (v : List WordBreak). unwrap_or pair
    (not (joins (value_at v 1) (value_at v 0) (word_break n) ahead || joins_flag (c ∷ b) n)))
    (sig-kept c b (named_kept (word_break c) h))
    ∙ ap (λ (r : Bool). unwrap_or pair (not (j || (starts_with_half_flag (significant (c ∷ b)) && r))))
    (named_no_flag (word_break n) g)
    ∙ ap (λ (r : Bool). unwrap_or pair (not (j || r))) (and-false (starts_with_half_flag (significant (c ∷ b))))
    ∙ ap (λ (r : Bool). unwrap_or pair (not r)) (or-false j)
    ∙ named_pair (word_break c) (word_break n) h g (is_extended_pictographic n) (not j)

abbrev pub plain_char : ℕ → Bool
plain_char c = is_plain (word_break c)

plain_stays : (c : ℕ) (b : List ℕ) (n : ℕ) (after : List ℕ) → plain_char c ≡ true → plain_char n ≡ true
    → is_word_break (c ∷ b) (n ∷ after) ≡ false
plain_stays c b n after h g =
    named_rule c b n after (plain_named _ h) (plain_named _ g)
    ∙ ap not (plain_joined (word_break c) (word_break n) _ _ h g)

mark_breaks : (c : ℕ) (b : List ℕ) (m : ℕ) → plain_char c ≡ true → is_mark (word_break m) ≡ true
    → is_word_break (c ∷ b) (m ∷ []) ≡ true
unfolding significant
mark_breaks c b m h g =
    named_rule c b m [] (plain_named _ h) (mark_named _ g) ∙ ap not (mark_last (word_break c) (word_break m) _ h g)

-- a run of letters and digits is one piece
pub cut-plain : (b : List ℕ) (c : ℕ) (w after : List ℕ) → list_all plain_char (c ∷ w) ≡ true
    → cut is_word_break b (c ∷ w) after ≡ (c ∷ w) ∷ []
unfolding cut
cut-plain b c [] after h = at (is_word_break (c ∷ b) after)
  where
    at : (t : Bool) → attach t (c ∷ []) [] ≡ (c ∷ []) ∷ []
    at true = refl
    at false = refl
cut-plain b c (n ∷ w) after h =
    let parts = and_parts _ _ h in
    ap₂ (λ t ps. attach t (c ∷ []) ps) (plain_stays c b n (w ++ after) parts.0 (and_parts _ _ parts.1).0)
    (cut-plain (c ∷ b) n w after parts.1)

-- and so it is before a mark that nothing follows
pub cut-marked : (b : List ℕ) (c : ℕ) (w : List ℕ) (m : ℕ) → list_all plain_char (c ∷ w) ≡ true
    → is_mark (word_break m) ≡ true
    → cut is_word_break b (c ∷ (w ++ m ∷ [])) [] ≡ (c ∷ w) ∷ ((m ∷ []) ∷ [])
unfolding cut is_word_break
cut-marked b c [] m h g = ap (λ t. attach t (c ∷ []) ((m ∷ []) ∷ [])) (mark_breaks c b m (and_parts _ _ h).0 g)
cut-marked b c (n ∷ w) m h g =
    let parts = and_parts _ _ h in
    ap₂ (λ t ps. attach t (c ∷ []) ps) (plain_stays c b n ((w ++ m ∷ []) ++ []) parts.0 (and_parts _ _ parts.1).0)
    (cut-marked (c ∷ b) n w m parts.1 g)
