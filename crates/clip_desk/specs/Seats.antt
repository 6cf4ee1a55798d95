-- What contracts see of a seat, of a receipt and of a desk.
use Rattle.std.specs.Prelude.{◌≡◌, ℕ, Bool, ◌+◌, ◌<◌, ◌≤◌, ◌⊎◌, List, [], length, take, slice_get, Some, nat_lt, sum_by}
use Rattle.std.specs.Prelude.{if◌then◌else◌, refl}
use Rattle.std.specs.Coded.{Coded, code_by, coded×, coded⊎, coded_ℕ, coded_bool, coded_list}
use Rattle.std.proofs.Common.{inl, inr}
use mathlib.Core.List.{IsPrefix}
use Rattle.logbook.specs.Pages.{Book, book_coded}
use Rattle.clip_model.specs.History.{History, Command, own, command_code, history_code}
use Rattle.clip_standing.specs.declared.command.Applied.{Applied}
use Rattle.clip_desk.specs.Updates.{Heard}
use Rattle.clip_standing.specs.declared.command.Applied.TheVariants as answer

-- keeps: whether the history of the views that it looks at is kept to be read; seen: the longest history that the seat
-- got; mine: the commands committed with it, in order; purged_at: how long the history was at the last purge with it;
-- purges: how many purges with it were answered Ok
pub record SeatIs : Type 0 where
  pub tag : ℕ
  pub caller : ℕ
  pub callers : ℕ
  pub keeps : Bool
  pub book : Book
  pub seen : History
  pub mine : List Command
  pub purged_at : ℕ
  pub purges : ℕ

-- what is known of a receipt: the history that ends with its command, and the answer
pub record ReceiptIs : Type 0 where
  pub tag : ℕ
  pub book : Book
  pub history : History
  pub applied : Applied

-- the parts of a desk: its tag, its callers, whether it keeps its history, its book, and what its listeners have heard
pub record PartsIs : Type 0 where
  pub tag : ℕ
  pub callers : ℕ
  pub keeps : Bool
  pub book : Book
  pub updates : List Heard

-- what contracts see of a desk
pub record DeskIs : Type 0 where
  pub tag : ℕ
  pub callers : ℕ

-- of the caller's own commands in what was seen, the first so many
abbrev pub mine_of : History → ℕ → ℕ → List Command
mine_of seen caller made = take made (own seen caller)

-- the longer of two histories, the first where they are as long
abbrev pub longer : History → History → History
longer xs ys = if nat_lt (length xs) (length ys) then ys else xs

-- a seat that has seen nothing
abbrev pub new_seat : ℕ → ℕ → Bool → Book → ℕ → SeatIs
new_seat tag callers keeps book caller = record {
  tag = tag;
  caller = caller;
  callers = callers;
  keeps = keeps;
  book = book;
  seen = [];
  mine = [];
  purged_at = 0;
  purges = 0;
}

-- the seats of callers 1, 2, ..
pub record AreSeated (tag callers : ℕ) (keeps : Bool) (book : Book) (seats : List SeatIs) : Type 0 where
  pub each : (k : ℕ) (s : SeatIs) → slice_get seats k ≡ Some s → s ≡ new_seat tag callers keeps book (k + 1)

-- the seat is of this tag, saw a beginning of the history, and gave its caller's commands there
abbrev pub IsAccounted : ℕ → History → SeatIs → Type 0
IsAccounted tag history s = (s.tag ≡ tag) × IsPrefix s.seen history × (own history s.caller ≡ s.mine)

-- each seat is accounted for, and each caller has one
pub record AreAll (tag callers : ℕ) (history : History) (seats : List SeatIs) : Type 0 where
  pub each : (k : ℕ) (s : SeatIs) → slice_get seats k ≡ Some s → IsAccounted tag history s
  pub none_missing : (caller : ℕ) → 0 < caller → caller ≤ callers
      → (k : ℕ) × (s : SeatIs) × (slice_get seats k ≡ Some s) × (s.caller ≡ caller)

-- how many purges with these seats were answered Ok
abbrev pub purges_with : List SeatIs → ℕ
purges_with seats = sum_by (λ s. s.purges) seats

-- ---- codes

abbrev pub seat_code : Coded SeatIs
seat_code =
    code_by (ℕ × (ℕ × (ℕ × (Bool × (Book × (History × (List Command × (ℕ × ℕ))))))))
    (coded× coded_ℕ (coded× coded_ℕ (coded× coded_ℕ (coded× coded_bool (coded× book_coded
    (coded× history_code (coded× (coded_list command_code) (coded× coded_ℕ coded_ℕ))))))))
    (λ s. (s.tag, (s.caller, (s.callers, (s.keeps, (s.book, (s.seen, (s.mine, (s.purged_at, s.purges)))))))))
    (λ p. record {
      tag = p.0;
      caller = p.1.0;
      callers = p.1.1.0;
      keeps = p.1.1.1.0;
      book = p.1.1.1.1.0;
      seen = p.1.1.1.1.1.0;
      mine = p.1.1.1.1.1.1.0;
      purged_at = p.1.1.1.1.1.1.1.0;
      purges = p.1.1.1.1.1.1.1.1;
    }) (λ _. refl)

abbrev answer_parts : Applied → ℕ ⊎ (ℕ ⊎ ℕ)
answer_parts (answer.Registered n) = inl n
answer_parts (answer.Deleted n) = inr (inl n)
answer_parts (answer.Cleared n) = inr (inr n)

abbrev answer_made : ℕ ⊎ (ℕ ⊎ ℕ) → Applied
answer_made (inl n) = answer.Registered n
answer_made (inr (inl n)) = answer.Deleted n
answer_made (inr (inr n)) = answer.Cleared n

pub answer_again : (a : Applied) → answer_made (answer_parts a) ≡ a
answer_again (answer.Registered n) = refl
answer_again (answer.Deleted n) = refl
answer_again (answer.Cleared n) = refl

abbrev pub answer_code : Coded Applied
answer_code = code_by (ℕ ⊎ (ℕ ⊎ ℕ)) (coded⊎ coded_ℕ (coded⊎ coded_ℕ coded_ℕ)) answer_parts answer_made answer_again

abbrev pub receipt_code : Coded ReceiptIs
receipt_code =
    code_by (ℕ × (Book × (History × Applied))) (coded× coded_ℕ (coded× book_coded (coded× history_code answer_code)))
    (λ r. (r.tag, (r.book, (r.history, r.applied))))
    (λ p. record { tag = p.0; book = p.1.0; history = p.1.1.0; applied = p.1.1.1 }) (λ _. refl)
