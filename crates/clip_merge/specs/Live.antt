-- Sets of seqs, as lists in which they rise.
use Rattle.std.specs.Prelude.{ℕ, ◌<◌, ◌==◌, Bool, List, filter}
use Rattle.std.specs.List.{list_any, AllPairs}
use Rattle.clip_model.specs.History.{Registered}

-- each seq is above those before it
pub record AreRising (seqs : List ℕ) : Type 0 where
  pub rises : AllPairs ◌<◌ seqs

-- the seq is one of these
abbrev pub names : List ℕ → ℕ → Bool
names seqs seq = list_any (λ s. s == seq) seqs

-- of the entries, in order, those whose seqs are among these
abbrev pub named : List ℕ → List Registered → List Registered
named seqs entries = filter (λ r. names seqs r.seq) entries
