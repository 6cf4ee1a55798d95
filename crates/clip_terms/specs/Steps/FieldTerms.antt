-- The terms of one field as contracts see them, and what holds of them.
use Rattle.std.specs.Prelude.{◌≤◌, [], map, length}
use Rattle.std.specs.List.Sorted.{IsStrictlySortedBy}
use Rattle.clip_extract.specs.Keys.{key_of, key_cmp, Word, Front}
use Rattle.clip_terms.specs.FieldTerms.{FieldTermsValue}
use Rattle.clip_terms.specs.Steps.Leads.{AreLeads, AreShortLengths, IsPart, heading}
use Rattle.clip_terms.specs.Steps.LeadMarks.{AreMarked}
use Rattle.clip_terms.specs.declared.terms.TheConstants.{MOST_TERMS}
use Rattle.clip_terms.specs.declared.field_terms.FieldTerms.TheInside.{Inside}

abbrev pub field_terms_of : Inside → FieldTermsValue
field_terms_of t = record { terms = map key_of t.keys.now; field = t.field.now }

-- The terms are in order, each once, and not too many; their leads and short lengths are theirs, and their leads are
-- marked; and the field's words are from `words.start` up to `words.end`, its fronts from `fronts.start` up to
-- `fronts.end`.
pub record AreFieldTerms (t : Inside) : Type 0 where
  pub strict : IsStrictlySortedBy key_cmp (map key_of t.keys.now)
  pub few : length t.keys.now ≤ MOST_TERMS
  pub leads : AreLeads (map key_of t.keys.now) t.leads.now
  pub lengths : AreShortLengths (map key_of t.keys.now) t.lengths.now
  pub marks : AreMarked (map key_of t.keys.now) t.marks.now
  pub words : IsPart (map key_of t.keys.now) (heading (Word t.field.now [])) t.words.start t.words.end
  pub fronts : IsPart (map key_of t.keys.now) (heading (Front t.field.now [])) t.fronts.start t.fronts.end
