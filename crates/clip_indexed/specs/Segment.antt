-- The entries of segments.
use Rattle.std.specs.Prelude.{ℕ, ◌<◌, List, [], ◌∷◌, ◌++◌, map}
use Rattle.std.specs.List.{AllPairs}
use Rattle.clip_model.specs.History.{Registered}

abbrev pub seqs_of : List Registered → List ℕ
seqs_of entries = map (λ e. e.seq) entries

-- each seq is above those before it
pub record IsRising (entries : List Registered) : Type 0 where
  pub rises : AllPairs (λ e f. e.seq < f.seq) entries

-- the entries of all segments, in order
abbrev pub all_entries : List (List Registered) → List Registered
all_entries [] = []
all_entries (segment ∷ segments) = segment ++ all_entries segments
