-- Ids of queries and of articles.
use Rattle.std.specs.Prelude.{ℕ, Bool, ◌&&◌, List, length, nat_lt, nat_le}
use Rattle.clip_words.specs.declared.TheConstants.{MOST_ID_BYTES}

-- the text has at least 1 byte, and at most `MOST_ID_BYTES`
abbrev pub is_id : List ℕ → Bool
is_id id = nat_lt 0 (length id) && nat_le (length id) MOST_ID_BYTES
