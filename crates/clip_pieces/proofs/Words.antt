-- Flags in the bits of words.
use Rattle.std.proofs.Common.{◌≡◌, ◌≢◌, ℕ, zero, suc, ◌+◌, ◌-◌, ◌*◌, ◌/◌, ◌%◌, ◌^◌, ◌<◌, ◌≤◌, min, nat_eq, Bool, true}
use Rattle.std.proofs.Common.{false, List, [], ◌∷◌, ◌++◌, length, map, take, drop, get_or, set, replicate, refl, sym}
use Rattle.std.proofs.Common.{ap, ap₂, ◌∙◌, unwrap_or, w64, arith, append-nil, length-append, length-take-le, pow-suc}
use Rattle.std.proofs.Common.{add-zero, inl, inr}
use Rattle.std.specs.Int.{bit_at, bit_not}
use Rattle.std.specs.Int.Bits.{bit_and, and_step, and_self}
use Rattle.std.specs.Int.RustNames.{bit_or}
use Rattle.std.specs.Int.Count.{count_trailing_zeros, under}
use Rattle.std.proofs.Math.Seq.{take-set-lt}
use Rattle.std.proofs.lemmas.Bool.{cases_eq}
use Rattle.std.proofs.lemmas.List.{ext_get_or, length-set, get_or-set_same, get_or-set_other, get_or-take, take_more}
use Rattle.std.proofs.lemmas.List.{map-append, take-append-drop, drop-set-lt, take-replicate, drop-replicate}
use Rattle.std.proofs.lemmas.List.{replicate-append-replicate, length-replicate}
use Rattle.std.proofs.lemmas.Option.{unwrap_or-slice_get}
use Rattle.std.proofs.lemmas.Nat.Bits.{bit_at_lowest, bit_at-suc, bit_at_set_same, bit_at_set_other, bit_at_clear_same}
use Rattle.std.proofs.lemmas.Nat.Bits.{bit_at_clear_other}
use Rattle.clip_pieces.specs.Marked.{marked, marked_from}
use Rattle.clip_pieces.specs.Pieces.{joined, AreFilled}
use Rattle.clip_pieces.specs.Steps.Bits.{bits_of, flags_of, HoldMarks}
use Rattle.clip_pieces.specs.declared.marks.TheConstants.{MOST_NUMBERS}
use Rattle.clip_pieces.proofs.Filled.{joined-append, get_part, set_part}
use Rattle.clip_pieces.proofs.Flags.{marked-append, none_marked}

-- ---- the bits of one word

pub length-bits_of : (k w : ℕ) → length (bits_of k w) ≡ k
unfolding bits_of
length-bits_of zero w = refl
length-bits_of (suc k) w = ap suc (length-bits_of k (w / 2))

pub get_bit : (k w i : ℕ) → i < k → get_or (bits_of k w) i false ≡ nat_eq (bit_at w i) 1
unfolding bits_of
get_bit zero w i h = absurd (omega arith)
get_bit (suc k) w zero h = ap (λ n. nat_eq n 1) (sym (bit_at_lowest w))
get_bit (suc k) w (suc i) h = get_bit k (w / 2) i (omega arith) ∙ ap (λ n. nat_eq n 1) (sym (bit_at-suc w i))

-- a word with one bit that is another
set_bit : (k v w i : ℕ) (flag : Bool) → i < k → nat_eq (bit_at v i) 1 ≡ flag
    → ((j : ℕ) → j < k → j ≢ i → bit_at v j ≡ bit_at w j) → bits_of k v ≡ set (bits_of k w) i flag
set_bit k v w i flag h here others =
    ext_get_or false (bits_of k v) (set (bits_of k w) i flag)
    (omega (arith, length-bits_of k v, length-bits_of k w, length-set (bits_of k w) i flag)) same
  where
    same : (j : ℕ) → j < length (bits_of k v) → get_or (bits_of k v) j false ≡ get_or (set (bits_of k w) i flag) j false
    same j l =
        let low : j < k = omega (arith, length-bits_of k v) in
        elim (cases_eq j i) [
          | inl e ↦
              let inside : i < length (bits_of k w) = omega (arith, length-bits_of k w) in
              ap (λ n. get_or (bits_of k v) n false) e ∙ get_bit k v i h ∙ here
              ∙ sym (get_or-set_same (bits_of k w) i flag false inside)
              ∙ ap (λ n. get_or (set (bits_of k w) i flag) n false) (sym e)
          | inr ne ↦
              get_bit k v j low ∙ ap (λ n. nat_eq n 1) (others j low ne) ∙ sym (get_bit k w j low)
              ∙ sym (get_or-set_other (bits_of k w) i j flag false ne)
        ]

pub bit_set : (w i : ℕ) → i < 64 → bits_of 64 (bit_or w (1 * 2 ^ i % 2 ^ 64)) ≡ set (bits_of 64 w) i true
bit_set w i low = set_bit 64 _ w i true low (ap (λ n. nat_eq n 1) (bit_at_set_same w64 w i low))
    (λ j _ ne. bit_at_set_other w64 w i low j ne)

pub bit_cleared : (w i : ℕ) → i < 64 → bits_of 64 (bit_and w (bit_not w64 (1 * 2 ^ i % 2 ^ 64)))
    ≡ set (bits_of 64 w) i false
bit_cleared w i low = set_bit 64 _ w i false low (ap (λ n. nat_eq n 1) (bit_at_clear_same w64 w i low))
    (λ j l ne. bit_at_clear_other w64 w i low j l ne)

pub no_bits : (k : ℕ) → bits_of k 0 ≡ replicate k false
unfolding bits_of
no_bits zero = refl
no_bits (suc k) = ap (λ bs. false ∷ bs) (no_bits k)

-- the lowest bit that is set comes first, and then the others
abbrev turn : ℕ → ℕ → ℕ → ℕ → List ℕ
turn k first bit rest = marked_from first (nat_eq bit 1 ∷ bits_of k rest)

module _ (k first w : ℕ) where
  abbrev IsNext : Type 0
  IsNext = turn k first (w % 2) (w / 2) ≡ (first + under (w % 2) (count_trailing_zeros k (w / 2)))
      ∷ turn k first (bit_and w (w - 1) % 2) (bit_and w (w - 1) / 2)

  next_odd : w % 2 ≡ 1 → IsNext
  next_odd odd =
      let half : (w - 1) / 2 ≡ w / 2 = omega arith in
      let low : min (w % 2) ((w - 1) % 2) ≡ 0 = omega arith in
      let is : bit_and w (w - 1) ≡ w / 2 * 2 + 0 =
      and_step w (w - 1) ∙ ap₂ (λ u v. u * 2 + v) (ap (bit_and (w / 2)) half ∙ and_self (w / 2)) low in
      let clear : bit_and w (w - 1) % 2 ≡ 0 = omega arith in
      let rest : bit_and w (w - 1) / 2 ≡ w / 2 = omega arith in
      ap (λ b. turn k first b (w / 2)) odd
      ∙ ap₂ (λ n ns. n ∷ ns) (sym (ap (λ b. first + under b (count_trailing_zeros k (w / 2))) odd ∙ add-zero first))
      (sym (ap₂ (turn k first) clear rest))

  next_even : (0 < w / 2 → marked_from (first + 1) (bits_of k (w / 2)) ≡ (first + 1 + count_trailing_zeros k (w / 2))
      ∷ marked_from (first + 1) (bits_of k (bit_and (w / 2) (w / 2 - 1))))
      → 0 < w → w % 2 ≡ 0 → IsNext
  next_even below some even =
      let half : (w - 1) / 2 ≡ w / 2 - 1 = omega arith in
      let low : min (w % 2) ((w - 1) % 2) ≡ 0 = omega arith in
      let is : bit_and w (w - 1) ≡ bit_and (w / 2) (w / 2 - 1) * 2 + 0 =
      and_step w (w - 1) ∙ ap₂ (λ u v. u * 2 + v) (ap (bit_and (w / 2)) half) low in
      let clear : bit_and w (w - 1) % 2 ≡ 0 = omega arith in
      let rest : bit_and w (w - 1) / 2 ≡ bit_and (w / 2) (w / 2 - 1) = omega arith in
      let zeros = count_trailing_zeros k (w / 2) in
      let place : first + 1 + zeros ≡ first + suc zeros = omega arith in
      ap (λ b. turn k first b (w / 2)) even ∙ below (omega arith)
      ∙ ap₂ (λ n ns. n ∷ ns) (place ∙ sym (ap (λ b. first + under b zeros) even)) (sym (ap₂ (turn k first) clear rest))

pub lowest_bit : (k first w : ℕ) → 0 < w → w < 2 ^ k → marked_from first (bits_of k w)
    ≡ (first + count_trailing_zeros k w) ∷ marked_from first (bits_of k (bit_and w (w - 1)))
unfolding bits_of count_trailing_zeros
lowest_bit zero first w some small = absurd (omega arith)
lowest_bit (suc k) first w some small =
    elim (cases_eq (w % 2) 0) [
      | inl even ↦ next_even k first w (λ more. lowest_bit k (first + 1) (w / 2) more (omega (arith, pow-suc 2 k)))
          some even
      | inr odd ↦ next_odd k first w (omega arith)
    ]

-- ---- the bits of all words

pub length-flags_of : (words : List ℕ) → length (flags_of words) ≡ 64 * length words
length-flags_of [] = refl
length-flags_of (w ∷ ws) =
    omega (arith, length-append (bits_of 64 w) (flags_of ws), length-bits_of 64 w, length-flags_of ws)

filled : (words : List ℕ) → AreFilled 64 (map (bits_of 64) words)
filled [] = tt
filled (w ∷ []) = (omega (arith, length-bits_of 64 w), omega (arith, length-bits_of 64 w))
filled (w ∷ v ∷ ws) = (length-bits_of 64 w, filled (v ∷ ws))

no_flags : (count : ℕ) → flags_of (replicate count 0) ≡ replicate (64 * count) false
no_flags zero = refl
no_flags (suc count) =
    let long : 64 + 64 * count ≡ 64 * suc count = omega arith in
    ap₂ (λ xs ys. xs ++ ys) (no_bits 64) (no_flags count) ∙ replicate-append-replicate 64 (64 * count) false
    ∙ ap (λ n. replicate n false) long

pub none_held : (bound count : ℕ) → bound ≤ 64 * count → 64 * count ≤ MOST_NUMBERS
    → HoldMarks bound (replicate count 0) × (take bound (flags_of (replicate count 0)) ≡ replicate bound false)
none_held bound count enough few =
    let long : length (replicate {A = ℕ} count 0) ≡ count = length-replicate count 0 in
    let none = no_flags count in (
      (
        omega arith,
        omega arith,
        ap (drop bound) none ∙ drop-replicate bound (64 * count) false
            ∙ ap (λ n. replicate (64 * n - bound) false) (sym long),
      ),
      ap (take bound) none ∙ take-replicate bound (64 * count) false enough,
    )

-- the bit of one place
module _ (words : List ℕ) (place w : ℕ) (low : place < 64 * length words) (is : w ≡ get_or words (place / 64) w) where
  inside : place < length (flags_of words)
  inside = omega (arith, low, length-flags_of words)

  pub set_flag : (v : ℕ) (flag : Bool) → bits_of 64 v ≡ set (bits_of 64 w) (place % 64) flag
      → flags_of (set words (place / 64) v) ≡ set (flags_of words) place flag
  set_flag v flag bits = (set_part (bits_of 64) 64 words (length (flags_of words)) (filled words, refl) place w v flag
      (omega arith) inside is bits).1

  pub read_flag : nat_eq (bit_at w (place % 64)) 1 ≡ get_or (flags_of words) place false
  read_flag =
      sym (get_bit 64 w (place % 64) (omega arith))
      ∙ sym (unwrap_or-slice_get (bits_of 64 w) (place % 64) false)
      ∙ ap (λ found. unwrap_or found false)
      (get_part (bits_of 64) 64 words place w (omega arith) (filled words) inside is)
      ∙ unwrap_or-slice_get (flags_of words) place false

module _ (bound : ℕ) (words : List ℕ) (hold : HoldMarks bound words) where
  -- one number more is marked
  pub mark_bit : (number v w : ℕ) → number < bound → w ≡ get_or words (number / 64) w
      → bits_of 64 v ≡ set (bits_of 64 w) (number % 64) true
      → HoldMarks bound (set words (number / 64) v)
      × (take bound (flags_of (set words (number / 64) v)) ≡ set (take bound (flags_of words)) number true)
  mark_bit number v w low is bits =
      let flags = set_flag words number w (omega (arith, hold.0)) is v true bits in
      let long : length (set words (number / 64) v) ≡ length words = length-set words (number / 64) v in (
        (
          omega (arith, hold.0),
          omega (arith, hold.1),
          ap (drop bound) flags ∙ drop-set-lt bound (flags_of words) number true low ∙ hold.2
              ∙ ap (λ n. replicate (64 * n - bound) false) (sym long),
        ),
        ap (take bound) flags ∙ take-set-lt bound (flags_of words) number true low,
      )

  pub read_bit : (number w : ℕ) → number < bound → w ≡ get_or words (number / 64) w → nat_eq (bit_at w (number % 64)) 1
      ≡ get_or (take bound (flags_of words)) number false
  read_bit number w low is = read_flag words number w (omega (arith, hold.0)) is
      ∙ sym (get_or-take bound (flags_of words) number false low)

  -- all bits that are set are those below the bound
  pub all_marked : marked (flags_of words) ≡ marked (take bound (flags_of words))
  all_marked =
      ap marked (sym (take-append-drop bound (flags_of words)))
      ∙ marked-append 0 (take bound (flags_of words)) (drop bound (flags_of words))
      ∙ ap (λ ns. marked (take bound (flags_of words)) ++ ns)
      (ap (marked_from (0 + length (take bound (flags_of words)))) hold.2
      ∙ none_marked (0 + length (take bound (flags_of words))) (64 * length words - bound))
      ∙ append-nil _

-- the numbers of one word more
pub next_word : (words : List ℕ) (j first : ℕ) → j < length words → first ≡ 64 * j
    → marked (flags_of (take j words)) ++ marked_from first (bits_of 64 (get_or words j 0))
    ≡ marked (flags_of (take (j + 1) words))
next_word words j first lt at =
    let before = take j words in
    let word = get_or words j 0 in
    let long : first ≡ 0 + length (flags_of before) =
    omega (arith, length-flags_of before, length-take-le j words (omega arith)) in
    ap₂ (λ n bs. marked (flags_of before) ++ marked_from n bs) long (sym (append-nil (bits_of 64 word)))
    ∙ sym (marked-append 0 (flags_of before) (bits_of 64 word ++ []))
    ∙ ap marked (sym (joined-append (map (bits_of 64) before) (bits_of 64 word ∷ [])))
    ∙ ap (λ bs. marked (joined bs)) (sym (map-append (bits_of 64) before (word ∷ [])))
    ∙ ap (λ ws. marked (flags_of ws)) (sym (take_more words j 0 lt))
