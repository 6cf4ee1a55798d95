-- Where the words of a field occur, and the postings that this tells.
use Rattle.std.specs.Prelude.{◌≡◌, ℕ, ◌+◌, ◌<◌, true, List, [], map, get_or, length, IsPermutation, All}
use Rattle.std.specs.Ordering.{is_lt}
use Rattle.std.specs.declared.cmp.Ordering.{Ordering}
use Rattle.std.specs.List.Sorted.{IsSorted}
use Rattle.clip_meaning.specs.Index.{numbered, posting_cmp}
use Rattle.clip_meaning.specs.Leads.{IsLead}
use Rattle.clip_meaning.specs.declared.index.Occurrence.{Occurrence}

-- the word at a position of these words, with the position
abbrev pub posting_at : List (List ℕ) → Occurrence → List ℕ × ℕ
posting_at words found = (get_or words found.position [], found.position)

-- the lead is that of the word
abbrev pub HasLeadOf : List (List ℕ) → Occurrence → Type 0
HasLeadOf words found = IsLead (get_or words found.position []) found.lead

-- one of these words is at the position, and the lead is that word's
abbrev pub IsOccurrence : List (List ℕ) → Occurrence → Type 0
IsOccurrence words found = (found.position < length words) × HasLeadOf words found

-- how a posting compares with another
abbrev pub order_of : List (List ℕ) → Occurrence → Occurrence → Ordering
order_of words a b = posting_cmp (posting_at words a) (posting_at words b)

-- each is of a word below the next one's, or of the same word and before it
abbrev pub AreRising : List (List ℕ) → List Occurrence → Type 0
AreRising words found = (place : ℕ) (other : Occurrence) → place + 1 < length found
    → is_lt (order_of words (get_or found place other) (get_or found (place + 1) other)) ≡ true

-- Each of the words occurs once, in order.
pub record IsIndexOf (words : List (List ℕ)) (found : List Occurrence) : Type 0 where
  pub all : IsPermutation (numbered 0 words) (map (posting_at words) found)
  pub order : IsSorted posting_cmp (map (posting_at words) found)
  pub leads : All (HasLeadOf words) found
