-- The rule of the chronicle, the history that outlives each lock, and what its steps tell.
use Rattle.std.specs.Prelude.{ℕ, ◌≡◌, ◌==◌, true, List, [], ◌∷◌, ◌++◌, length, MatchBool}
use Rattle.logbook.specs.Pages.{Cell, Step, View, Book, Named}
use Rattle.clip_model.specs.History.{HistoryEntry}

-- the first word is the length of the history. The second is unused
abbrev pub IsKept : List Cell → List HistoryEntry → Type 0
IsKept cells log = cells ≡ (length log, true) ∷ (0, true) ∷ []

abbrev pub head_of : Book → Named
head_of b = record { tracked = true; key = 0; book = b }

abbrev pub no_book : Book
no_book = record { number = 0; log_name = 0; cells_name = 0 }

-- the entry was added to all that had been seen; or the history was longer, and was seen
abbrev pub Adds : Step HistoryEntry → View HistoryEntry ℕ → ℕ → View HistoryEntry ℕ → Type 0
Adds s v found w = MatchBool (found == s.old) (w.0 ≡ v.0 ++ s.ask ∷ []) (length w.0 ≡ found)
