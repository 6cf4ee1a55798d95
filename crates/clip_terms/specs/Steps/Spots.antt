-- The positions of a field's words, by the numbers of their terms.
use Rattle.std.specs.Prelude.{◌≡◌, false, [], map}
use Rattle.std.specs.List.{list_any}
use Rattle.std.specs.List.Sorted.{IsStrictlySortedBy}
use Rattle.clip_meaning.specs.Article.{Fields}
use Rattle.clip_extract.specs.Keys.{KeyValue, Word, key_cmp, is_same}
use Rattle.clip_extract.specs.Covering.{field_keys}
use Rattle.clip_terms.specs.Reading.{has_key}
use Rattle.clip_terms.specs.Terms.{number_of}
use Rattle.clip_terms.specs.Spots.{FieldValue, SpotsValue}
use Rattle.clip_terms.specs.Steps.Leads.{heading, IsPart}
use Rattle.clip_terms.specs.declared.spots.FieldSpots.TheInside.{Inside}

-- a key that the article lacks is that of no word of the field
abbrev pub IsOfArticle : Fields → FieldValue → Type 0
IsOfArticle fields field = (key : KeyValue) → has_key fields key ≡ false
    → list_any (λ w. is_same (Word field.0 w) key) field.1 ≡ false

-- spots as contracts see them
abbrev pub spots_value : Inside → SpotsValue
spots_value spots = record { terms = spots.reading.now.terms; field = spots.field.now }

-- The terms are in order, each once; each word's number is at its position; the field is one of the article's; and
-- the range is that of the terms which are words of it.
pub record AreSpots (spots : Inside) : Type 0 where
  pub strict : IsStrictlySortedBy key_cmp spots.reading.now.terms
  pub numbers : spots.numbers.now ≡ map (number_of spots.reading.now.terms) (field_keys spots.field.now)
  pub among : IsOfArticle spots.reading.now.article.fields spots.field.now
  pub part : IsPart spots.reading.now.terms (heading (Word spots.field.now.0 [])) spots.range.start spots.range.end
