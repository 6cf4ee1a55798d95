-- The flags of words, up to a length.
use Rattle.std.proofs.Common.{◌≡◌, ◌≢◌, ℕ, ◌+◌, ◌*◌, ◌/◌, ◌%◌, ◌<◌, nat_eq, Bool, false, List, [], ◌∷◌, ◌++◌, ◌-◌}
use Rattle.std.proofs.Common.{length, map, take, drop, replicate, get_or, set, slice_get, Some, Result, Ok, Err, OnOk}
use Rattle.std.proofs.Common.{OnErr, sym, ap, ap₂, ◌∙◌, subst, arith, append-nil, length-append, length-take-le}
use Rattle.std.specs.Int.{bit_at}
use Rattle.std.proofs.Math.Seq.{take-set-lt, drop-append-add}
use Rattle.std.proofs.lemmas.List.{length-set, get_or-set_same, get_or-take, get_or-append_right, get_or_default}
use Rattle.std.proofs.lemmas.List.{take_more, take_more_set, take-append-le, map-append, drop-set-lt, drop-drop}
use Rattle.std.proofs.lemmas.List.{drop-replicate}
use Rattle.std.proofs.lemmas.Option.{slice_get-get_or}
use Rattle.clip_pieces.specs.Pieces.{joined}
use Rattle.clip_pieces.specs.Steps.Bits.{bits_of, flags_of, HoldFlags}
use Rattle.clip_pieces.proofs.Filled.{joined-append}
use Rattle.clip_pieces.proofs.Words.{length-bits_of, no_bits, length-flags_of, read_flag}

-- one word more
pub one_word : (words : List ℕ) (w : ℕ) → flags_of (words ++ w ∷ []) ≡ flags_of words ++ bits_of 64 w
one_word words w =
    ap joined (map-append (bits_of 64) words (w ∷ [])) ∙ joined-append (map (bits_of 64) words) (bits_of 64 w ∷ [])
    ∙ ap (λ bits. flags_of words ++ bits) (append-nil (bits_of 64 w))

-- words whose flags are those of others but for one are as many
pub as_many : (words changed : List ℕ) (place : ℕ) (flag : Bool) → flags_of changed ≡ set (flags_of words) place flag
    → length changed ≡ length words
as_many words changed place flag flags =
    let same : length (flags_of changed) ≡ length (flags_of words) =
    ap length flags ∙ length-set (flags_of words) place flag in
    omega (arith, same, length-flags_of words, length-flags_of changed)

-- with one flag more none is set behind it
none_from : (len : ℕ) (flags : List Bool) (many : ℕ) → drop len flags ≡ replicate (many - len) false
    → drop (len + 1) flags ≡ replicate (many - (len + 1)) false
none_from len flags many none =
    let more : many - len - 1 ≡ many - (len + 1) = omega arith in
    sym (drop-drop 1 len flags) ∙ ap (drop 1) none ∙ drop-replicate 1 (many - len) false
    ∙ ap (λ n. replicate n false) more

module _ (len : ℕ) (words : List ℕ) (hold : HoldFlags len words) where
  pub held_length : len ≡ length (take len (flags_of words))
  held_length = sym (length-take-le len (flags_of words) (omega (arith, hold.0, length-flags_of words)))

  -- a place of the list
  pub place_held : (flags : List Bool) (place : ℕ) → take len (flags_of words) ≡ flags → place < length flags
      → place < len
  place_held flags place is low = omega (arith, low, held_length, ap length is)

  -- another flag at a place
  pub changed_flag : (changed : List ℕ) (place : ℕ) (flag : Bool) → place < len
      → flags_of changed ≡ set (flags_of words) place flag
      → HoldFlags len changed × (take len (flags_of changed) ≡ set (take len (flags_of words)) place flag)
  changed_flag changed place flag low flags =
      let long = as_many words changed place flag flags in (
        (
          omega (arith, long, hold.0),
          omega (arith, long, hold.1),
          ap (drop len) flags ∙ drop-set-lt len (flags_of words) place flag low ∙ hold.2
              ∙ ap (λ n. replicate (64 * n - len) false) (sym long),
        ),
        ap (take len) flags ∙ take-set-lt len (flags_of words) place flag low,
      )

  pub changed_or_same : {T E : Type 0} (r : Result T E) (changed : List ℕ) (place : ℕ) (flag : Bool) → place < len
      → OnOk r (flags_of changed ≡ set (flags_of words) place flag) → OnErr r (changed ≡ words) → HoldFlags len changed
  changed_or_same (Ok t) changed place flag low ok err = (changed_flag changed place flag low ok).0
  changed_or_same (Err e) changed place flag low ok err = subst (HoldFlags len) (sym err) hold

  -- one flag more, in the last word
  pub flag_in_last : (changed : List ℕ) (flag : Bool) → len % 64 ≢ 0 → flags_of changed ≡ set (flags_of words) len flag
      → HoldFlags (len + 1) changed × (take (len + 1) (flags_of changed) ≡ take len (flags_of words) ++ flag ∷ [])
  flag_in_last changed flag some flags =
      let long = as_many words changed len flag flags in (
        (
          omega (arith, long, hold.0, some),
          omega (arith, long, hold.1),
          ap (drop (len + 1)) flags ∙ drop-set-lt (len + 1) (flags_of words) len flag (omega arith)
              ∙ none_from len (flags_of words) (64 * length words) hold.2
              ∙ ap (λ n. replicate (64 * n - (len + 1)) false) (sym long),
        ),
        ap (take (len + 1)) flags
            ∙ take_more_set (flags_of words) len flag (omega (arith, hold.0, some, length-flags_of words)),
      )

  -- one flag more, in a word of its own
  pub flag_in_new : (w : ℕ) (flag : Bool) → len % 64 ≡ 0 → bits_of 64 w ≡ set (bits_of 64 0) 0 flag
      → HoldFlags (len + 1) (words ++ w ∷ [])
      × (take (len + 1) (flags_of (words ++ w ∷ [])) ≡ take len (flags_of words) ++ flag ∷ [])
  flag_in_new w flag full bits =
      let before = flags_of words in
      let long : length before ≡ len = omega (arith, hold.0, hold.1, full, length-flags_of words) in
      let more : length (words ++ w ∷ []) ≡ length words + 1 = length-append words (w ∷ []) in
      let first : get_or (bits_of 64 w) 0 false ≡ flag = ap (λ bs. get_or bs 0 false) bits
      ∙ get_or-set_same (bits_of 64 0) 0 flag false (omega (arith, length-bits_of 64 0)) in
      let last : get_or (before ++ bits_of 64 w) len false ≡ flag =
      get_or-append_right before (bits_of 64 w) len len false long (omega arith)
      ∙ ap (λ n. get_or (bits_of 64 w) n false) (let none : len - len ≡ 0 = omega arith in none) ∙ first in (
        (
          omega (arith, more, hold.0),
          omega (arith, more, long, length-flags_of words),
          ap (drop (len + 1)) (one_word words w) ∙ ap (λ n. drop n (before ++ bits_of 64 w)) (omega (arith, long))
              ∙ drop-append-add before (bits_of 64 w) 1
              ∙ ap (drop 1) (bits ∙ ap (λ bs. set bs 0 flag) (no_bits 64))
              ∙ ap (λ n. replicate n false) (let few : 63 ≡ 64 * length (words ++ w ∷ []) - (len + 1) =
              omega (arith, more, long, length-flags_of words) in few),
        ),
        ap (take (len + 1)) (one_word words w)
            ∙ take_more (before ++ bits_of 64 w) len false
            (omega (arith, long, length-append before (bits_of 64 w), length-bits_of 64 w))
            ∙ ap₂ (λ fs f. fs ++ f ∷ []) (take-append-le len before (bits_of 64 w) (omega (arith, long))) last,
      )

  -- the flag at a place
  pub held_flag : (place : ℕ) → place < len → Some (nat_eq (bit_at (get_or words (place / 64) 0) (place % 64)) 1)
      ≡ slice_get (take len (flags_of words)) place
  held_flag place low =
      let inside : place < 64 * length words = omega (arith, low, hold.0) in
      let word = get_or words (place / 64) 0 in
      ap Some (read_flag words place word inside (get_or_default words (place / 64) 0 word (omega (arith, inside)))
      ∙ sym (get_or-take len (flags_of words) place false low))
      ∙ sym (slice_get-get_or (take len (flags_of words)) place false (omega (arith, low, held_length)))
