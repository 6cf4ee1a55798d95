-- Postings as contracts see them, and what holds of them.
use Rattle.std.specs.Prelude.{ℕ, List, map, All}
use Rattle.std.specs.List.Sorted.{IsSorted}
use Rattle.clip_meaning.specs.Index.{posting_cmp}
use Rattle.clip_meaning.specs.Steps.Occurrences.{posting_at, HasLeadOf}
use Rattle.clip_meaning.specs.declared.index.Postings.TheInside.{Inside}

-- each occurrence with its word
abbrev pub postings_in : Inside → List (List ℕ × ℕ)
postings_in p = map (posting_at p.words.now) p.occurrences.now

-- they are in order, and the leads are those of the words
pub record ArePostings (p : Inside) : Type 0 where
  pub order : IsSorted posting_cmp (postings_in p)
  pub leads : All (HasLeadOf p.words.now) p.occurrences.now
