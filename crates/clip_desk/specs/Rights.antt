-- What contracts see of the right to add entries of one caller.
use Rattle.std.specs.Prelude.{ℕ, refl}
use Rattle.std.specs.Coded.{Coded, code_by, coded×, coded_ℕ}
use Rattle.logbook.specs.Pages.{Book, book_coded}

-- the right of a caller, and how many entries were added with it
pub record RightIs : Type 0 where
  pub book : Book
  pub caller : ℕ
  pub made : ℕ

abbrev pub right_code : Coded RightIs
right_code = code_by (Book × (ℕ × ℕ)) (coded× book_coded (coded× coded_ℕ coded_ℕ)) (λ r. (r.book, (r.caller, r.made)))
    (λ p. record { book = p.0; caller = p.1.0; made = p.1.1 }) (λ _. refl)

-- the rights of a new chronicle, of which so many were given
pub record RightsAre : Type 0 where
  pub book : Book
  pub given : ℕ

abbrev pub rights_code : Coded RightsAre
rights_code = code_by (Book × ℕ) (coded× book_coded coded_ℕ) (λ r. (r.book, r.given))
    (λ p. record { book = p.0; given = p.1 }) (λ _. refl)
