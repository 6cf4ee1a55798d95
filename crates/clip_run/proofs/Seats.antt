-- The only seat of a desk of one caller.
use Rattle.std.proofs.Common.{◌≡◌, ℕ, Bool, ◌+◌, List, [], ◌∷◌, ◌++◌, length, Some, slice_get, refl, sym, ap, ◌∙◌}
use Rattle.std.proofs.Common.{arith, length-append}
use Rattle.logbook.specs.Pages.{Book}
use Rattle.clip_desk.specs.Seats.{SeatIs, DeskIs, AreSeated, new_seat}
use Rattle.clip_run.specs.Seated.{IsOnlyNew}

get_end : (xs : List SeatIs) (e : SeatIs) → slice_get (xs ++ e ∷ []) (length xs) ≡ Some e
get_end [] e = refl
get_end (x ∷ xs) e = get_end xs e

new_seated : (tag callers : ℕ) (keeps : Bool) (book b : Book) (n : ℕ) (desk : DeskIs) (s : SeatIs)
    → s ≡ new_seat tag callers keeps book 1 → callers ≡ 1 → book ≡ b → callers ≡ n → desk.tag ≡ tag
    → desk.callers ≡ callers → IsOnlyNew b n desk s
new_seated tag callers keeps book b n desk s is one named counted tagged same = (
  record {
    tag = ap (λ x. x.tag) is ∙ sym tagged;
    book_is = ap (λ x. x.book) is ∙ named;
    callers_are = ap (λ x. x.callers) is ∙ counted;
    alone = ap (λ x. x.callers) is ∙ one;
    desk_alone = same ∙ one;
    first = ap (λ x. x.caller) is;
  },
  ap (λ x. x.mine) is,
)

pub only_seat : (tag callers : ℕ) (keeps : Bool) (book b : Book) (n : ℕ) (desk : DeskIs) (xs ys : List SeatIs)
    (s : SeatIs) → AreSeated tag callers keeps book xs → xs ≡ ys ++ s ∷ [] → length xs ≡ 1 → callers ≡ 1 → book ≡ b
    → callers ≡ n → desk.tag ≡ tag → desk.callers ≡ callers → IsOnlyNew b n desk s
only_seat tag callers keeps book b n desk xs ys s seated parts long one named counted tagged same =
    let none : length ys ≡ 0 = omega (arith, ap length parts, length-append ys (s ∷ []), long) in
    let at : slice_get xs (length ys) ≡ Some s = ap (λ l. slice_get l (length ys)) parts ∙ get_end ys s in
    let is : s ≡ new_seat tag callers keeps book 1 =
    seated.each (length ys) s at ∙ ap (λ k. new_seat tag callers keeps book (k + 1)) none in
    new_seated tag callers keeps book b n desk s is one named counted tagged same
