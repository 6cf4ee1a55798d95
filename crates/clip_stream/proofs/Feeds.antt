-- Where the first line feed stands.
use Rattle.std.proofs.Common.{◌≡◌, ℕ, zero, suc, ◌+◌, ◌<◌, ◌==◌, ◌||◌, List, [], ◌∷◌, length, take, drop, Bool, true}
use Rattle.std.proofs.Common.{false, cond, Option, Some, None, refl, sym, ap, ◌∙◌, arith, true≢false}
use Rattle.memchr.specs.Find.{IsFirstByte, Nowhere, Passes, is_byte}
use Rattle.clip_stream.specs.Steps.Reading.{has_feed, first_line, after_line, FeedsAt, IsFeedOf}

none_step : (t r : Bool) → (t ≡ true → ⊥) → r ≡ false → (t || r) ≡ false
none_step true r unlike rest = absurd (unlike refl)
none_step false r unlike rest = rest

later : (b : ℕ) (bytes : List ℕ) (k : ℕ) → Nowhere (Passes (is_byte 10) (b ∷ bytes)) 0 (suc k)
    → Nowhere (Passes (is_byte 10) bytes) 0 k
later b bytes k none i low high is = none (suc i) (omega arith) (omega (arith, high)) is

none_before : (bytes : List ℕ) → Nowhere (Passes (is_byte 10) bytes) 0 (length bytes) → has_feed bytes ≡ false
none_before [] none = refl
none_before (b ∷ bytes) none =
    none_step (b == 10) (has_feed bytes) (none 0 (omega arith) (omega arith))
    (none_before bytes (later b bytes (length bytes) none))

here : (t : Bool) (b : ℕ) (bytes : List ℕ) → t ≡ true → ((t || has_feed bytes) ≡ true)
    × (cond t [] (b ∷ first_line bytes) ≡ []) × (cond t bytes (after_line bytes) ≡ bytes)
here true b bytes is = (refl, refl, refl)
here false b bytes is = absurd (true≢false (sym is))

there : (t : Bool) (b : ℕ) (bytes : List ℕ) (k : ℕ) → (t ≡ true → ⊥) → FeedsAt bytes k
    → ((t || has_feed bytes) ≡ true) × (cond t [] (b ∷ first_line bytes) ≡ b ∷ take k bytes)
    × (cond t bytes (after_line bytes) ≡ drop (k + 1) bytes)
there true b bytes k unlike rest = absurd (unlike refl)
there false b bytes k unlike rest = (rest.has, ap (λ xs. b ∷ xs) rest.first, rest.after)

dropped : (b : ℕ) (bytes : List ℕ) (k : ℕ) → drop (suc k + 1) (b ∷ bytes) ≡ drop (k + 1) bytes
dropped b bytes k = let e : suc k + 1 ≡ suc (k + 1) = omega arith in ap (λ n. drop n (b ∷ bytes)) e

feeds_at : (bytes : List ℕ) (k : ℕ) → k < length bytes → Nowhere (Passes (is_byte 10) bytes) 0 k
    → Passes (is_byte 10) bytes k → FeedsAt bytes k
feeds_at [] k within none is = absurd (omega (arith, within))
feeds_at (b ∷ bytes) zero within none is =
    let all = here (b == 10) b bytes is in record { has = all.0; within = within; first = all.1; after = all.2 }
feeds_at (b ∷ bytes) (suc k) within none is =
    let rest = feeds_at bytes k (omega (arith, within)) (later b bytes k none) is in
    let all = there (b == 10) b bytes k (none 0 (omega arith) (omega arith)) rest in
    record { has = all.0; within = within; first = all.1; after = all.2 ∙ sym (dropped b bytes k) }

-- what a search for a line feed finds
pub is_feed_of : (bytes : List ℕ) (r : Option ℕ) → IsFirstByte (is_byte 10) bytes r → IsFeedOf r bytes
is_feed_of bytes None none = none_before bytes none
is_feed_of bytes (Some k) found = feeds_at bytes k found.0.high found.0.before found.1
