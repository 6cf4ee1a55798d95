-- A reading as contracts see it, and what holds of each.
use Rattle.std.specs.Prelude.{◌≡◌, ℕ, ◌<◌, nat_eq, map, length, unwrap_or, slice_get, true}
use Rattle.std.specs.FinMap as finite
use Rattle.std.specs.List.{IsDistinct, list_any, All}
use Rattle.std.specs.List.Sorted.{IsStrictlySortedBy}
use Rattle.clip_extract.specs.Keys.{key_cmp}
use Rattle.clip_extract.specs.Covering.{field_keys}
use Rattle.clip_terms.specs.Terms.{term_at, number_of}
use Rattle.clip_terms.specs.Reading.{ReadingValue, has_key}
use Rattle.clip_terms.specs.declared.reading.Reading.TheInside.{Inside}

abbrev pub reading_of : Inside → ReadingValue
reading_of r = record { terms = r.terms.now; article = r.article.now }

-- The terms are in order, each once; the numbers are those of the terms that the article has, each once; each term has
-- its flag; and each place of each field has the number of its word, if that is a term.
pub record IsReading (r : Inside) : Type 0 where
  pub strict : IsStrictlySortedBy key_cmp r.terms.now
  pub once : IsDistinct nat_eq r.numbers.items
  pub within : All (λ n. n < length r.terms.now) r.numbers.items
  pub numbers : (n : ℕ) → n < length r.terms.now
      → list_any (nat_eq n) r.numbers.items ≡ has_key r.article.now.fields (term_at r.terms.now n)
  pub long : length r.marks ≡ length r.terms.now
  pub flags : (n : ℕ) → n < length r.terms.now
      → unwrap_or (slice_get r.marks n) true ≡ has_key r.article.now.fields (term_at r.terms.now n)
  pub fields : r.fields.items
      ≡ map (λ field. map (number_of r.terms.now) (field_keys field)) (finite.entries r.article.now.fields)
