-- Flags that are set in one list and not in another.
use Rattle.std.proofs.Common.{◌≡◌, ℕ, zero, suc, ◌+◌, ◌-◌, ◌*◌, ◌/◌, ◌%◌, ◌^◌, ◌<◌, ◌≤◌, min, nat_eq, Bool, true, false}
use Rattle.std.proofs.Common.{not, ◌&&◌, w64, List, length, take, get_or, refl, sym, ap, ap₂, ◌∙◌, arith, inl, inr}
use Rattle.std.specs.Int.{bit_at, bit_not, trailing_zeros}
use Rattle.std.specs.Int.Bits.{bit_and}
use Rattle.std.proofs.Math.Nat.{div-div-eq-div-mul}
use Rattle.std.proofs.lemmas.Nat.{pow-add}
use Rattle.std.proofs.lemmas.Bool.{cases_lt, false≢true}
use Rattle.std.proofs.lemmas.List.{get_or_past}
use Rattle.std.proofs.lemmas.Nat.Bits.{bit_at_and, bit_at_not, bit_at_above, bit_at-lt, bit_at-zero}
use Rattle.std.proofs.lemmas.Nat.Bits.{bit_at-trailing_zeros}
use Rattle.clip_pieces.specs.Marked.{is_lost}
use Rattle.clip_pieces.specs.Steps.Bits.{flags_of, is_set, HoldFlags}
use Rattle.clip_pieces.proofs.Both.{all_held, flag_read}

-- ---- the bits of a word that another word has not

test_lost : (a b : ℕ) → a < 2 → b < 2 → nat_eq (min a (1 - b)) 1 ≡ (nat_eq a 1 && not (nat_eq b 1))
test_lost zero zero p q = refl
test_lost zero (suc zero) p q = refl
test_lost (suc zero) zero p q = refl
test_lost (suc zero) (suc zero) p q = refl
test_lost (suc (suc a)) b p q = absurd (omega arith)
test_lost a (suc (suc b)) p q = absurd (omega arith)

bit_right : (n s i : ℕ) → bit_at (n / 2 ^ s) i ≡ bit_at n (s + i)
bit_right n s i =
    ap (λ m. m % 2) (div-div-eq-div-mul n (2 ^ s) (2 ^ i) ∙ ap (λ p. n / p) (sym (pow-add 2 s i)))

pub lost_test : (w v s i : ℕ) → v < 2 ^ 64 → s + i < 64
    → is_set (bit_and w (bit_not w64 v) / 2 ^ s) i ≡ (is_set w (s + i) && not (is_set v (s + i)))
lost_test w v s i small low =
    ap (λ b. nat_eq b 1)
    (bit_right (bit_and w (bit_not w64 v)) s i ∙ bit_at_and w (bit_not w64 v) (s + i)
    ∙ ap (min (bit_at w (s + i))) (bit_at_not w64 v (s + i) small low))
    ∙ test_lost (bit_at w (s + i)) (bit_at v (s + i)) (bit_at-lt w (s + i)) (bit_at-lt v (s + i))

test_past : (a b : ℕ) → a ≡ 0 → b < 2 → nat_eq (min a b) 1 ≡ false
test_past zero zero none low = refl
test_past zero (suc zero) none low = refl
test_past (suc a) b none low = absurd (omega arith)
test_past a (suc (suc b)) none low = absurd (omega arith)

pub lost_past : (w v s i : ℕ) → w < 2 ^ 64 → 64 ≤ s + i → is_set (bit_and w (bit_not w64 v) / 2 ^ s) i ≡ false
lost_past w v s i small past =
    ap (λ b. nat_eq b 1) (bit_right (bit_and w (bit_not w64 v)) s i ∙ bit_at_and w (bit_not w64 v) (s + i))
    ∙ test_past (bit_at w (s + i)) (bit_at (bit_not w64 v) (s + i)) (bit_at_above w 64 (s + i) small past)
    (bit_at-lt (bit_not w64 v) (s + i))

-- ---- the flags of two lists

-- the words have the bits of these flags
pub read_held : (len : ℕ) (words : List ℕ) (flags : List Bool) → HoldFlags len words → take len (flags_of words) ≡ flags
    → (place : ℕ) → get_or (flags_of words) place false ≡ get_or flags place false
read_held len words flags hold is place =
    all_held len (64 * length words - len) (flags_of words) hold.2 place ∙ ap (λ fs. get_or fs place false) is

pub lost_within : (flags more : List Bool) (place : ℕ) → is_lost flags more place ≡ true → place < length flags
lost_within flags more place lost = elim (cases_lt place (length flags)) [
  | inl low ↦ low
  | inr past ↦
      absurd (false≢true
      (sym (ap (λ b. b && not (get_or more place false)) (get_or_past flags place false past)) ∙ lost))
]

-- Two lists of words have the bits of two lists of flags. From a place on to before a word none is lost, and bits tell
-- which flags of this word are, from the first of its places that is looked at.
pub record AtWord (words others : List ℕ) (flags more : List Bool) (from word first lost : ℕ) : Type 0 where
  pub mine : (place : ℕ) → get_or (flags_of words) place false ≡ get_or flags place false
  pub theirs : (place : ℕ) → get_or (flags_of others) place false ≡ get_or more place false
  pub before : (place : ℕ) → from ≤ place → place < 64 * word → is_lost flags more place ≡ false
  pub here : first / 64 ≡ word
  pub least : (place : ℕ) → from ≤ place → 64 * word ≤ place → first ≤ place
  pub within : (bit : ℕ) → first % 64 + bit < 64 → is_set lost bit
      ≡ (is_set (get_or words (first / 64) 0) (first % 64 + bit)
      && not (is_set (get_or others (first / 64) 0) (first % 64 + bit)))
  pub past : (bit : ℕ) → 64 ≤ first % 64 + bit → is_set lost bit ≡ false

module _ (words others : List ℕ) (flags more : List Bool) (from word first lost : ℕ)
    (at : AtWord words others flags more from word first lost) where
  -- what a bit tells
  lost_at : (bit : ℕ) → first % 64 + bit < 64 → is_set lost bit ≡ is_lost flags more (first + bit)
  lost_at bit low =
      let same : (first + bit) / 64 ≡ first / 64 = omega arith in
      let rest : (first + bit) % 64 ≡ first % 64 + bit = omega arith in
      let read : (ws : List ℕ)
      → is_set (get_or ws (first / 64) 0) (first % 64 + bit) ≡ get_or (flags_of ws) (first + bit) false =
      λ ws. sym (ap₂ (λ k b. is_set (get_or ws k 0) b) same rest) ∙ flag_read ws (first + bit) in
      at.within bit low
      ∙ ap₂ (λ a b. a && not b) (read words ∙ at.mine (first + bit)) (read others ∙ at.theirs (first + bit))

  told : (place : ℕ) → first ≤ place → place < 64 * (word + 1)
      → is_lost flags more place ≡ is_set lost (place - first)
  told place after inside =
      let here = at.here in
      let there : place ≡ first + (place - first) = omega arith in
      ap (is_lost flags more) there ∙ sym (lost_at (place - first) (omega arith))

  pub none_more : lost ≡ 0
      → (place : ℕ) → from ≤ place → place < 64 * (word + 1) → is_lost flags more place ≡ false
  none_more none place after inside = elim (cases_lt place (64 * word)) [
    | inl earlier ↦ at.before place after earlier
    | inr later ↦
        told place (at.least place after later) inside ∙ ap (λ v. is_set v (place - first)) none
        ∙ ap (λ n. nat_eq n 1) (bit_at-zero (place - first))
  ]

  module _ (some : 0 < lost) (small : lost < 2 ^ 64) where
    abbrev zeros : ℕ
    zeros = trailing_zeros w64 lost

    low : first % 64 + zeros < 64
    low = elim (cases_lt (first % 64 + zeros) 64) [
      | inl inside ↦ inside
      | inr past ↦
          absurd (false≢true (sym (at.past zeros past)
          ∙ ap (λ n. nat_eq n 1) (bit_at-trailing_zeros w64 lost some small).1))
    ]

    -- the lowest bit tells of the first that is lost
    pub found_lost : is_lost flags more (first + trailing_zeros w64 lost) ≡ true
    found_lost =
        sym (lost_at zeros low) ∙ ap (λ n. nat_eq n 1) (bit_at-trailing_zeros w64 lost some small).1

    pub none_earlier : (place : ℕ) → from ≤ place → place < first + trailing_zeros w64 lost
        → is_lost flags more place ≡ false
    none_earlier place after earlier = elim (cases_lt place (64 * word)) [
      | inl lower ↦ at.before place after lower
      | inr later ↦
          let reached = at.least place after later in
          let inside = low in
          let here = at.here in
          told place reached (omega arith)
          ∙ ap (λ n. nat_eq n 1) ((bit_at-trailing_zeros w64 lost some small).2 (place - first) (omega arith))
    ]
