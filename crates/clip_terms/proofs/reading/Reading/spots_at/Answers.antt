use Rattle.std.proofs.Common.{◌≡◌, ◌<◌, [], arith, ap, subst, sym, ◌∙◌, length, map, get_or}
use Rattle.std.specs.FinMap as finite
use Rattle.std.proofs.lemmas.List.{get_or_default}
use Rattle.clip_extract.specs.Covering.{field_keys}
use Rattle.clip_terms.specs.Terms.{number_of}
use Rattle.clip_terms.specs.Reading.{ReadingValue}
use Rattle.clip_terms.specs.Spots.{FieldValue}
use Rattle.clip_terms.specs.Steps.Spots.{IsOfArticle}
use Rattle.clip_terms.proofs.Spotted.{field_at, of_article}
use Rattle.clip_terms.proofs.reading.Reading.spots_at.Goals as goal

pub of-requires-clause-numbers : goal.of-requires-clause-numbers
of-requires-clause-numbers c =
    let inside = c.self.inside in
    let place = c.args.place in
    let fields = finite.entries inside.article.now.fields in
    let terms = inside.terms.now in
    let found = c.index-fields-place.result in
    let within : place < length fields =
    omega (arith, c.requires, ap (λ (r : ReadingValue). length (finite.entries r.article.fields)) c.self.view_is) in
    let field : found ≡ get_or fields place ([], []) =
    c.index-fields-place.is ∙ ap (λ fs. get_or fs place found) c.fields.ensures
    ∙ get_or_default fields place found ([], []) within in
    c.index.ensures
    ∙ field_at (λ (f : FieldValue). map (number_of terms) (field_keys f)) inside.fields.items fields place
    c.index.result.now ([], []) c.self.invariant.fields within
    ∙ ap (λ (f : FieldValue). map (number_of terms) (field_keys f)) (sym field)
    ∙ ap (λ (r : ReadingValue). map (number_of r.terms) (field_keys found)) c.self.view_is

pub of-requires-clause-among : goal.of-requires-clause-among
of-requires-clause-among c =
    let inside = c.self.inside in
    let place = c.args.place in
    let fields = finite.entries inside.article.now.fields in
    let found = c.index-fields-place.result in
    let within : place < length fields =
    omega (arith, c.requires, ap (λ (r : ReadingValue). length (finite.entries r.article.fields)) c.self.view_is) in
    let field : found ≡ get_or fields place ([], []) =
    c.index-fields-place.is ∙ ap (λ fs. get_or fs place found) c.fields.ensures
    ∙ get_or_default fields place found ([], []) within in
    subst (λ (r : ReadingValue). IsOfArticle r.article.fields found) c.self.view_is
    (subst (IsOfArticle inside.article.now.fields) (sym field) (of_article inside.article.now.fields place within))
