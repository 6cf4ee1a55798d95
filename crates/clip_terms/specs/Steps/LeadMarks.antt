-- Marks of the leads of terms.
use Rattle.std.specs.Prelude.{◌≡◌, ℕ, ◌*◌, ◌/◌, ◌%◌, ◌^◌, ◌<◌, Bool, false, true, List, length, min, slice_index}
use Rattle.std.specs.Prelude.{slice_index_or}
use Rattle.std.specs.List.{All}
use Rattle.clip_meaning.specs.Leads.{IsLead}
use Rattle.clip_extract.specs.Keys.{KeyValue, text_of}
use Rattle.clip_terms.specs.declared.lead_marks.LeadMarks.{LeadMarks}
use Rattle.clip_terms.specs.declared.lead_marks.TheConstants.{SPREAD}

-- the bit of a lead
abbrev pub bit_of : (lead shift last : ℕ) → ℕ
bit_of lead shift last = min (lead * SPREAD % 2 ^ 64 / 2 ^ (shift % 64)) last

-- the bit of the lead is marked
abbrev pub has_mark : LeadMarks → (lead : ℕ) → Bool
has_mark marks lead = slice_index_or marks.marks (bit_of lead marks.shift marks.last) false

-- each of the leads has its mark
abbrev pub HaveMarks : (leads : List ℕ) → LeadMarks → Type 0
HaveMarks leads marks = (n : ℕ) → n < length leads → has_mark marks (slice_index leads n) ≡ true

-- the lead of the text of each term has its mark
abbrev pub AreMarked : List KeyValue → LeadMarks → Type 0
AreMarked terms marks = All (λ term. (lead : ℕ) → IsLead (text_of term) lead → has_mark marks lead ≡ true) terms
