-- A walk over notes whose queries rise.
use Rattle.std.specs.Prelude.{ℕ, List, [], ◌∷◌, Bool, true, cond, ◌&&◌, Option, None, Some, bytes_eq}
use Rattle.std.specs.Ordering.{is_lt}
use Rattle.clip_words.specs.Order.{bytes_cmp}
use Rattle.clip_listen.specs.Heard.{NoteValue}

-- the note's query is before that of the first of these, if there is one
abbrev pub before_first : NoteValue → List NoteValue → Bool
before_first note [] = true
before_first note (next ∷ notes) = is_lt (bytes_cmp note.query next.query)

-- each query is before the next
abbrev pub rise : List NoteValue → Bool
rise [] = true
rise (note ∷ notes) = before_first note notes && rise notes

-- the notes from the first one on whose query isn't before this one
abbrev pub from_query : List ℕ → List NoteValue → List NoteValue
from_query query [] = []
from_query query (note ∷ notes) = cond (is_lt (bytes_cmp note.query query)) (from_query query notes) (note ∷ notes)

-- the first of the notes, if it is of this query
abbrev pub first_of : List ℕ → List NoteValue → Option NoteValue
first_of query [] = None
first_of query (note ∷ notes) = cond (bytes_eq note.query query) (Some note) None
