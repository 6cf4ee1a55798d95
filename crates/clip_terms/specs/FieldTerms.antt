-- The terms of one field.
use Rattle.std.specs.Prelude.{ℕ, List, refl}
use Rattle.std.specs.Coded.{Coded, code_by, coded×, coded_list}
use Rattle.clip_grammar.specs.TreeCode.{bytes_code}
use Rattle.clip_extract.specs.Keys.{KeyValue}
use Rattle.clip_terms.specs.Reading.{key_code}

-- the terms, and the name of the field whose words and fronts are asked for among them
pub record FieldTermsValue : Type 0 where
  pub terms : List KeyValue
  pub field : List ℕ

abbrev pub field_terms_code : Coded FieldTermsValue
field_terms_code = code_by (List KeyValue × List ℕ) (coded× (coded_list key_code) bytes_code) (λ v. (v.terms, v.field))
    (λ p. record { terms = p.0; field = p.1 }) (λ _. refl)
