-- Keys by rank, field and text, and the first bytes of the texts of terms.
use Rattle.std.specs.Prelude.{◌≡◌, ℕ, ◌+◌, ◌-◌, ◌*◌, ◌^◌, ◌<◌, ◌≤◌, List, [], ◌∷◌, Option, length, slice_index}
use Rattle.std.specs.Prelude.{slice_index_or, MatchOption}
use Rattle.std.specs.Ordering.{nat_cmp, then_cmp, on}
use Rattle.std.specs.declared.cmp.Ordering.{Ordering}
use Rattle.std.specs.declared.cmp.Ordering.TheVariants.{Less}
use Rattle.clip_words.specs.Order.{bytes_cmp}
use Rattle.clip_meaning.specs.Leads.{IsLead}
use Rattle.clip_extract.specs.Keys.{KeyValue, rank, field_of, text_of}
pub use Rattle.clip_extract.specs.Lengths.{IsShortLength}

-- what a key's text is listed under
abbrev pub heading : KeyValue → ℕ × List ℕ
heading key = (rank key, field_of key)

-- by rank, then by field
abbrev pub heading_cmp : ℕ × List ℕ → ℕ × List ℕ → Ordering
heading_cmp = then_cmp (on (λ h. h.0) nat_cmp) (on (λ h. h.1) bytes_cmp)

-- beside each term is the lead of its text
abbrev pub AreLeads : List KeyValue → (leads : List ℕ) → Type 0
AreLeads [] [] = Unit {0}
AreLeads [] (lead ∷ leads) = ⊥
AreLeads (term ∷ terms) [] = ⊥
AreLeads (term ∷ terms) (lead ∷ leads) = IsLead (text_of term) lead × AreLeads terms leads

-- beside each term is the short length of its text
abbrev pub AreShortLengths : List KeyValue → (lengths : List ℕ) → Type 0
AreShortLengths [] [] = Unit {0}
AreShortLengths [] (short ∷ lengths) = ⊥
AreShortLengths (term ∷ terms) [] = ⊥
AreShortLengths (term ∷ terms) (short ∷ lengths) = IsShortLength (text_of term) short × AreShortLengths terms lengths

-- from `start` up to `end` are just the terms under the heading
pub record IsPart (terms : List KeyValue) (head : ℕ × List ℕ) (start end : ℕ) : Type 0 where
  pub rises : start ≤ end
  pub within : end ≤ length terms
  pub just : (n : ℕ) (d : KeyValue) → start ≤ n → n < end → heading (slice_index_or terms n d) ≡ head
  pub all : (n : ℕ) (d : KeyValue) → n < length terms → heading (slice_index_or terms n d) ≡ head
      → (start ≤ n) × (n < end)

-- from `start` up to `end` each text is below those after it
abbrev pub TextsRise : List KeyValue → (start end : ℕ) → Type 0
TextsRise terms start end = (m n : ℕ) (d : KeyValue) → start ≤ m → m < n → n < end
    → bytes_cmp (text_of (slice_index_or terms m d)) (text_of (slice_index_or terms n d)) ≡ Less

-- from `start` up to `end` no lead is below one before it
abbrev pub NeverFall : List ℕ → (start end : ℕ) → Type 0
NeverFall leads start end = (m n : ℕ) → start ≤ m → m < n → n < end → slice_index leads m ≤ slice_index leads n

-- the place of the text from `start` up to `end`, and `None` where it is not there
abbrev pub IsPlaceOf : List KeyValue → (start end : ℕ) → (text : List ℕ) → Option ℕ → Type 0
IsPlaceOf terms start end text place =
    MatchOption place
    ((n : ℕ) (d : KeyValue) → start ≤ n → n < end → text_of (slice_index_or terms n d) ≡ text → ⊥)
    (λ n. (start ≤ n) × (n < end) × ((d : KeyValue) → text_of (slice_index_or terms n d) ≡ text))

-- A word that begins with a text of the lead and the short length has no lead from the place on, where leads never
-- fall.
pub record IsPast (leads : List ℕ) (place lead short : ℕ) : Type 0 where
  pub some : 0 < short
  pub few : short ≤ 8
  pub past : place < length leads → lead + 2 ^ (64 - 8 * short) ≤ slice_index leads place
