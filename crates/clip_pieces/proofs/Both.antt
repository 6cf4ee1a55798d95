-- Flags that are set in two lists, and how many are set.
use Rattle.std.proofs.Common.{◌≡◌, ℕ, zero, suc, ◌+◌, ◌-◌, ◌*◌, ◌/◌, ◌%◌, ◌^◌, ◌<◌, ◌≤◌, min, nat_eq, Bool, true, false}
use Rattle.std.proofs.Common.{cond, not, ◌&&◌, ◌||◌, max, w64, List, [], ◌∷◌, ◌++◌, length, map, take, drop, get_or}
use Rattle.std.proofs.Common.{replicate, refl, sym, ap, ap₂, ◌∙◌, arith, inl, inr, length-take, length-take-le}
use Rattle.std.proofs.Common.{count_ones, pow-suc}
use Rattle.std.specs.Int.{bit_at, bit_not}
use Rattle.std.specs.Int.Bits.{bit_and}
use Rattle.std.specs.Int.RustNames.{bit_or}
use Rattle.std.specs.List.{count_by, filter}
use Rattle.std.specs.Simd.Lanes.{mask_l}
use Rattle.std.proofs.lemmas.Bool.{cases_lt}
use Rattle.std.proofs.lemmas.List.{ext_get_or, get_or-drop, get_or-take, get_or_default, get_or_past, length-drop}
use Rattle.std.proofs.lemmas.List.{length-replicate, take_more, take-append-drop}
use Rattle.std.proofs.lemmas.List.Sums.{sum_by-append, count_by-le-length, length-filter}
use Rattle.std.proofs.lemmas.Nat.Bits.{bit_at_and, bit_at_or, bit_at_not, bit_at-lt, bit_at-zero}
use Rattle.std.proofs.lemmas.Simd.{ones-mask_l}
use Rattle.clip_pieces.specs.Marked.{both}
use Rattle.clip_pieces.specs.Steps.Bits.{bits_of, flags_of, is_set, HoldMarks}
use Rattle.clip_pieces.proofs.Words.{length-bits_of, length-flags_of, read_flag}
use Rattle.clip_pieces.proofs.Held.{one_word}

-- ---- flags behind the end

pub get_or_none : (k i : ℕ) → get_or (replicate k false) i false ≡ false
get_or_none zero i = refl
get_or_none (suc k) zero = refl
get_or_none (suc k) (suc i) = get_or_none k i

none_behind : (n k place : ℕ) (flags : List Bool) → drop n flags ≡ replicate k false → n ≤ place
    → get_or flags place false ≡ false
none_behind n k place flags none h =
    let at : place ≡ n + (place - n) = omega arith in
    ap (λ i. get_or flags i false) at ∙ sym (get_or-drop n flags (place - n) false)
    ∙ ap (λ fs. get_or fs (place - n) false) none ∙ get_or_none k (place - n)

-- where no flag is set behind the first n, these are all
pub all_held : (n k : ℕ) (flags : List Bool) → drop n flags ≡ replicate k false → (place : ℕ)
    → get_or flags place false ≡ get_or (take n flags) place false
all_held n k flags none place = elim (cases_lt place n) [
  | inl low ↦ sym (get_or-take n flags place false low)
  | inr past ↦ none_behind n k place flags none past
      ∙ sym (get_or_past (take n flags) place false (omega (arith, length-take n flags)))
]

-- ---- flags of two lists

none_with : (b : Bool) → (b && false) ≡ false
none_with true = refl
none_with false = refl

pub length-both : (xs ys : List Bool) → length (both xs ys) ≡ length xs
length-both [] ys = refl
length-both (x ∷ xs) [] = ap suc (length-both xs [])
length-both (x ∷ xs) (y ∷ ys) = ap suc (length-both xs ys)

pub get_or-both : (xs ys : List Bool) (n : ℕ) → get_or (both xs ys) n false ≡ (get_or xs n false && get_or ys n false)
get_or-both [] ys n = refl
get_or-both (x ∷ xs) [] zero = sym (none_with x)
get_or-both (x ∷ xs) [] (suc n) = get_or-both xs [] n
get_or-both (x ∷ xs) (y ∷ ys) zero = refl
get_or-both (x ∷ xs) (y ∷ ys) (suc n) = get_or-both xs ys n

-- the flag of a place is a bit of its word
pub flag_read : (words : List ℕ) (place : ℕ) → nat_eq (bit_at (get_or words (place / 64) 0) (place % 64)) 1
    ≡ get_or (flags_of words) place false
flag_read words place = elim (cases_lt place (64 * length words)) [
  | inl low ↦
      let w = get_or words (place / 64) 0 in
      read_flag words place w low (get_or_default words (place / 64) 0 w (omega (arith, low)))
  | inr past ↦
      ap (λ w. nat_eq (bit_at w (place % 64)) 1) (get_or_past words (place / 64) 0 (omega (arith, past)))
      ∙ ap (λ n. nat_eq n 1) (bit_at-zero (place % 64))
      ∙ sym (get_or_past (flags_of words) place false (omega (arith, past, length-flags_of words)))
]

test_and : (a b : ℕ) → a < 2 → b < 2 → nat_eq (min a b) 1 ≡ (nat_eq a 1 && nat_eq b 1)
test_and zero zero low here = refl
test_and zero (suc zero) low here = refl
test_and (suc zero) zero low here = refl
test_and (suc zero) (suc zero) low here = refl
test_and a (suc (suc b)) low here = absurd (omega arith)
test_and (suc (suc a)) b low here = absurd (omega arith)

pub and_test : (v w i : ℕ) → nat_eq (bit_at (bit_and v w) i) 1 ≡ (nat_eq (bit_at v i) 1 && nat_eq (bit_at w i) 1)
and_test v w i = ap (λ n. nat_eq n 1) (bit_at_and v w i)
    ∙ test_and (bit_at v i) (bit_at w i) (bit_at-lt v i) (bit_at-lt w i)

test_met : (a n h : ℕ) → a < 2 → n < 2 → h < 2 → nat_eq (min a (max h (1 - n))) 1
    ≡ (nat_eq a 1 && (nat_eq h 1 || not (nat_eq n 1)))
test_met zero zero zero p q r = refl
test_met zero zero (suc zero) p q r = refl
test_met zero (suc zero) zero p q r = refl
test_met zero (suc zero) (suc zero) p q r = refl
test_met (suc zero) zero zero p q r = refl
test_met (suc zero) zero (suc zero) p q r = refl
test_met (suc zero) (suc zero) zero p q r = refl
test_met (suc zero) (suc zero) (suc zero) p q r = refl
test_met (suc (suc a)) n h p q r = absurd (omega arith)
test_met a (suc (suc n)) h p q r = absurd (omega arith)
test_met a n (suc (suc h)) p q r = absurd (omega arith)

pub met_test : (w n h i : ℕ) → n < 2 ^ 64 → i < 64 → is_set (bit_and w (bit_or h (bit_not w64 n))) i
    ≡ (is_set w i && (is_set h i || not (is_set n i)))
met_test w n h i small low =
    ap (λ b. nat_eq b 1) (bit_at_and w (bit_or h (bit_not w64 n)) i
    ∙ ap (min (bit_at w i)) (bit_at_or h (bit_not w64 n) i ∙ ap (max (bit_at h i)) (bit_at_not w64 n i small low)))
    ∙ test_met (bit_at w i) (bit_at n i) (bit_at h i) (bit_at-lt w i) (bit_at-lt n i) (bit_at-lt h i)

module _ (bound : ℕ) (words changed : List ℕ) (hold : HoldMarks bound words) (long : length changed
    ≡ length words) where
  -- words that have no bit more
  pub fewer_held : ((place : ℕ) → get_or (flags_of words) place false ≡ false → get_or (flags_of changed) place false
      ≡ false) → HoldMarks bound changed
  fewer_held fewer =
      let many = length-flags_of changed in (
        omega (arith, long, hold.0),
        omega (arith, long, hold.1),
        ext_get_or false (drop bound (flags_of changed)) (replicate (64 * length changed - bound) false)
            (omega (
              arith,
              many,
              length-drop bound (flags_of changed),
              length-replicate (64 * length changed - bound) false,
            ))
            (λ i low. get_or-drop bound (flags_of changed) i false
            ∙ fewer (bound + i) (none_behind bound (64 * length words - bound) (bound + i) (flags_of words) hold.2
            (omega arith))
            ∙ sym (get_or_none (64 * length changed - bound) i)),
      )

  pub length_marks : length (take bound (flags_of changed)) ≡ bound
  length_marks = length-take-le bound (flags_of changed) (omega (arith, long, hold.0, length-flags_of changed))

  -- of the marks those that have a flag
  pub kept_flags : (others : List ℕ) (flags : List Bool)
      → ((place : ℕ) → get_or changed place 0 ≡ bit_and (get_or words place 0) (get_or others place 0))
      → ((place : ℕ) → get_or (flags_of others) place false ≡ get_or flags place false)
      → HoldMarks bound changed × (take bound (flags_of changed) ≡ both (take bound (flags_of words)) flags)
  kept_flags others flags bits are =
      let each : (place : ℕ) → get_or (flags_of changed) place false
      ≡ (get_or (flags_of words) place false && get_or flags place false) =
      λ place. sym (flag_read changed place) ∙ ap (λ w. nat_eq (bit_at w (place % 64)) 1) (bits (place / 64))
      ∙ and_test (get_or words (place / 64) 0) (get_or others (place / 64) 0) (place % 64)
      ∙ ap₂ (λ a b. a && b) (flag_read words place) (flag_read others place ∙ are place) in (
        fewer_held (λ place none. each place ∙ ap (λ b. b && get_or flags place false) none),
        ext_get_or false (take bound (flags_of changed)) (both (take bound (flags_of words)) flags)
            (length_marks ∙ sym (length-both (take bound (flags_of words)) flags
            ∙ length-take-le bound (flags_of words) (omega (arith, hold.0, length-flags_of words))))
            (λ i low. let below : i < bound = omega (arith, low, length_marks) in
            get_or-take bound (flags_of changed) i false below ∙ each i
            ∙ ap (λ b. b && get_or flags i false) (sym (get_or-take bound (flags_of words) i false below))
            ∙ sym (get_or-both (take bound (flags_of words)) flags i)),
      )

  -- of the marks those that are met
  pub met_flags : (needs has : List ℕ) → ((place bit : ℕ) → bit < 64
      → is_set (get_or changed place 0) bit
      ≡ (is_set (get_or words place 0) bit
      && (is_set (get_or has place 0) bit || not (is_set (get_or needs place 0) bit))))
      → (place : ℕ) → get_or (flags_of changed) place false
      ≡ (get_or (flags_of words) place false
      && (get_or (flags_of has) place false || not (get_or (flags_of needs) place false)))
  met_flags needs has bits place =
      sym (flag_read changed place) ∙ bits (place / 64) (place % 64) (omega arith)
      ∙ ap₂ (λ a b. a && b) (flag_read words place)
      (ap₂ (λ a b. a || not b) (flag_read has place) (flag_read needs place))

-- ---- how many are set

abbrev pub set_of : List Bool → ℕ
set_of flags = count_by (λ flag. flag) flags

pub count-append : (xs ys : List Bool) → set_of (xs ++ ys) ≡ set_of xs + set_of ys
count-append xs ys = sum_by-append (λ flag. cond flag 1 0) xs ys

each_same : (bits : List Bool) → map (λ b. b) bits ≡ bits
each_same [] = refl
each_same (b ∷ bits) = ap (λ bs. b ∷ bs) (each_same bits)

ones_of : (bits : List Bool) → count_ones (mask_l bits) ≡ set_of bits
ones_of bits = ap (λ bs. count_ones (mask_l bs)) (sym (each_same bits)) ∙ ones-mask_l (λ b. b) bits

bit_value : (n : ℕ) → n < 2 → cond (nat_eq n 1) 1 0 ≡ n
bit_value zero low = refl
bit_value (suc zero) low = refl
bit_value (suc (suc n)) low = absurd (omega arith)

word_of : (k w : ℕ) → w < 2 ^ k → mask_l (bits_of k w) ≡ w
unfolding bits_of
word_of zero w small = omega arith
word_of (suc k) w small =
    let low = bit_value (w % 2) (omega arith) in
    let rest = word_of k (w / 2) (omega (arith, pow-suc 2 k)) in
    omega (arith, low, rest)

pub ones_counted : (w : ℕ) → w < 2 ^ 64 → count_ones w ≡ set_of (bits_of 64 w)
ones_counted w small = ap count_ones (sym (word_of 64 w small)) ∙ ones_of (bits_of 64 w)

-- the flags of one word more
pub next_count : (words : List ℕ) (j : ℕ) → j < length words → set_of (flags_of (take (j + 1) words))
    ≡ set_of (flags_of (take j words)) + set_of (bits_of 64 (get_or words j 0))
next_count words j lt = ap (λ ws. set_of (flags_of ws)) (take_more words j 0 lt)
    ∙ ap set_of (one_word (take j words) (get_or words j 0))
    ∙ count-append (flags_of (take j words)) (bits_of 64 (get_or words j 0))

none_set : (k : ℕ) → length (filter (λ flag. flag) (replicate k false)) ≡ 0
none_set zero = refl
none_set (suc k) = none_set k

count_none : (k : ℕ) → set_of (replicate k false) ≡ 0
count_none k = sym (length-filter (λ flag. flag) (replicate k false)) ∙ none_set k

-- of a front of the words no more flags are set than there are
pub few_counted : (words : List ℕ) (j : ℕ) → j ≤ length words → set_of (flags_of (take j words)) ≤ 64 * j
few_counted words j le =
    omega (
      arith,
      count_by-le-length (λ flag. flag) (flags_of (take j words)),
      length-flags_of (take j words),
      length-take-le j words le,
    )

pub few_ones : (w : ℕ) → w < 2 ^ 64 → count_ones w ≤ 64
few_ones w small = omega (
  arith,
  ones_counted w small,
  count_by-le-length (λ flag. flag) (bits_of 64 w),
  length-bits_of 64 w,
)

-- the marks are all flags that are set
pub all_counted : (bound : ℕ) (words : List ℕ) → HoldMarks bound words
    → set_of (flags_of words) ≡ set_of (take bound (flags_of words))
all_counted bound words hold =
    let flags = flags_of words in
    let rest = count_none (64 * length words - bound) in
    ap set_of (sym (take-append-drop bound flags)) ∙ count-append (take bound flags) (drop bound flags)
    ∙ (let none : set_of (take bound flags) + set_of (drop bound flags) ≡ set_of (take bound flags) =
    omega (arith, rest, ap set_of hold.2) in none)
