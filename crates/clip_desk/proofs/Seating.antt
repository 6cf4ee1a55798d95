-- Seats in the order of their callers.
use Rattle.std.proofs.Common.{◌≡◌, ℕ, Bool, zero, suc, ◌+◌, List, [], ◌∷◌, ◌++◌, length, Some, slice_get, refl, ap, sym}
use Rattle.std.proofs.Common.{◌∙◌, subst, arith, ◌⊎◌, inl, inr, ⊎_elim, ◌<◌, ◌≤◌, get_or, lt_of_not-le}
use mathlib.Core.Logic.{dite}
use native.Mathlib.Decide.{dec_le}
use Rattle.logbook.specs.Pages.{Book}
use Rattle.clip_desk.specs.Seats.{SeatIs, new_seat, AreSeated}
use Rattle.clip_desk.specs.Locked.{AreSeatsOf}

pub get_more : (xs : List SeatIs) (e x : SeatIs) (k : ℕ) → slice_get (xs ++ e ∷ []) k ≡ Some x
    → (slice_get xs k ≡ Some x) ⊎ ((k ≡ length xs) × (e ≡ x))
get_more [] e x zero is = inr (refl, cc is)
get_more [] e x (suc k) is = absurd (cc is)
get_more (y ∷ xs) e x zero is = inl is
get_more (y ∷ xs) e x (suc k) is =
    ⊎_elim (λ t. inl t) (λ (t : (k ≡ length xs) × (e ≡ x)). inr (ap suc t.0, t.1)) (get_more xs e x k is)

pub seated_more : (tag callers : ℕ) (keeps : Bool) (book : Book) (xs : List SeatIs) (s : SeatIs) (n : ℕ)
    → AreSeated tag callers keeps book xs → length xs ≡ n → s ≡ new_seat tag callers keeps book (n + 1)
    → AreSeated tag callers keeps book (xs ++ s ∷ [])
seated_more tag callers keeps book xs s n seated len is = record {
  each = λ k x at. ⊎_elim
      (λ (t : slice_get xs k ≡ Some x). seated.each k x t)
      (λ (t : (k ≡ length xs) × (s ≡ x)). sym t.1
      ∙ (is ∙ ap (λ (m : ℕ). new_seat tag callers keeps book (m + 1)) (sym len ∙ sym t.0)))
      (get_more xs s x k at);
}

pub one_more : (P : ℕ → Type 0) (n : ℕ) → ((c : ℕ) → 0 < c → c ≤ n → P c) → P (n + 1) → (c : ℕ) → 0 < c → c ≤ n + 1
    → P c
one_more P n before here c low high =
    dite (dec_le c n) (λ le. before c low le) (λ more. let is : n + 1 ≡ c = omega (arith, lt_of_not-le more) in
    subst P is here)

pub item_is : (xs : List SeatIs) (i : ℕ) (x s : SeatIs) → i < length xs → x ≡ get_or xs i x → slice_get xs i ≡ Some s
    → x ≡ s
item_is [] i x s lt is at = absurd (omega arith)
item_is (y ∷ xs) zero x s lt is at = is ∙ cc at
item_is (y ∷ xs) (suc i) x s lt is at = item_is xs i x s (omega arith) is at

pub item_more : (P : SeatIs → Type 0) (xs : List SeatIs) (i : ℕ) (x : SeatIs) → i < length xs → x ≡ get_or xs i x
    → ((k : ℕ) (s : SeatIs) → k < i → slice_get xs k ≡ Some s → P s) → P x → (k : ℕ) (s : SeatIs) → k < i + 1
    → slice_get xs k ≡ Some s → P s
item_more P xs i x lt is before here k s less at = dite (dec_le (k + 1) i) (λ le. before k s (omega arith) at)
    (λ more. let same : k ≡ i = omega (arith, lt_of_not-le more) in
    subst P (item_is xs i x s lt is (ap (slice_get xs) (sym same) ∙ at)) here)

pub item_inside : (xs : List SeatIs) (k : ℕ) (s : SeatIs) → slice_get xs k ≡ Some s → k < length xs
item_inside [] k s at = absurd (cc at)
item_inside (x ∷ xs) zero s at = omega arith
item_inside (x ∷ xs) (suc k) s at = let h = item_inside xs k s at in omega (arith, h)

-- seats in order are seats of the desk
pub seated_of : (tag callers n : ℕ) (keeps : Bool) (book b : Book) (xs : List SeatIs)
    → AreSeated tag callers keeps book xs → book ≡ b → callers ≡ n → AreSeatsOf b n xs
seated_of tag callers n keeps book b xs seated is as_many =
    record { each = λ k s at. let e = seated.each k s at in (ap (λ x. x.book) e ∙ is, ap (λ x. x.callers) e ∙ as_many) }
