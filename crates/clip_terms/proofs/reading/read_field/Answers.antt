use Rattle.std.proofs.Common.{◌≡◌, ◌++◌, ℕ, List, Option, map, ap, sym, subst, ◌∙◌}
use Rattle.clip_extract.specs.Covering.{field_keys, front_keys}
use Rattle.clip_terms.specs.FieldTerms.{FieldTermsValue}
use Rattle.clip_terms.specs.Spots.{FieldValue}
use Rattle.clip_terms.specs.Terms.{number_of}
use Rattle.clip_terms.specs.Steps.Fronts.{AddsNumbersOf}
use Rattle.clip_terms.specs.Steps.KeysByField.{ordered_keys}
use Rattle.clip_terms.specs.Steps.Numbers.{known, number_at}
use Rattle.clip_terms.proofs.AskedFronts.{added_more, keys_added}
use Rattle.clip_terms.proofs.ReadingOf.{places_numbered}
use Rattle.clip_terms.proofs.reading.read_field.Goals as goal

pub of-requires : goal.of-requires
of-requires c =
    let terms = c.args.terms.now in
    let field = c.args.asked.now in
    let by_key : c.in_ok-by_key.by_key.items ≡ map (number_of terms) (ordered_keys field) =
    c.in_ok-by_key.ensures
    ∙ ap (λ (v : FieldTermsValue). map (number_of v.terms) (ordered_keys field)) c.of_field-of_field.ensures in
    c.in_ok-by_place.ensures
    ∙ ap (λ (by : List (Option ℕ)). map (number_at by) c.places.result.now) (c.deref-2.ensures.value ∙ by_key)
    ∙ places_numbered terms (ordered_keys field) field.0 c.places.result.now field.1 c.places.ensures
    ∙ ap (λ (f : FieldValue). map (number_of terms) (field_keys f)) (sym c.field-field.ensures)

pub returns-clause-added : goal.returns-clause-added
returns-clause-added c =
    let terms = c.args.terms.now in
    let field = c.args.asked.now in
    let old = c.args.numbers.now.items in
    let now = c.add_all_known.new.numbers.items in
    let new = c.add_field_fronts.new.numbers.items in
    let by_key : c.in_ok-by_key.by_key.items ≡ map (number_of terms) (ordered_keys field) =
    c.in_ok-by_key.ensures
    ∙ ap (λ (v : FieldTermsValue). map (number_of v.terms) (ordered_keys field)) c.of_field-of_field.ensures in
    let words = keys_added terms (ordered_keys field) old now c.order_law.ensures
    (c.in_ok-add_all_known.ensures
    ∙ ap (λ (by : List (Option ℕ)). old ++ known by) (c.deref-3.ensures.value ∙ by_key)) in
    added_more terms (ordered_keys field) (front_keys field) old now new words
    (subst (λ (f : FieldValue). AddsNumbersOf terms (front_keys f) now new) c.field-field.ensures
    (subst (λ (v : FieldTermsValue). AddsNumbersOf v.terms (front_keys c.field-field.result.now) now new)
    c.of_field-of_field.ensures c.in_ok-add_field_fronts.ensures))
