-- The only caller at a desk.
use Rattle.std.specs.Prelude.{◌≡◌, ℕ, []}
use Rattle.logbook.specs.Pages.{Book}
use Rattle.clip_desk.specs.Seats.{SeatIs, DeskIs}

-- The seat is that of caller 1 at the desk of this book, which has no other caller.
pub record IsOnly (book : Book) (callers : ℕ) (desk : DeskIs) (seat : SeatIs) : Type 0 where
  pub tag : seat.tag ≡ desk.tag
  pub book_is : seat.book ≡ book
  pub callers_are : seat.callers ≡ callers
  pub alone : seat.callers ≡ 1
  pub desk_alone : desk.callers ≡ 1
  pub first : seat.caller ≡ 1

-- It is, and has committed nothing yet.
abbrev pub IsOnlyNew : Book → ℕ → DeskIs → SeatIs → Type 0
IsOnlyNew book callers desk seat = IsOnly book callers desk seat × (seat.mine ≡ [])
