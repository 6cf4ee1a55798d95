use Rattle.std.proofs.Common.{◌≡◌, None, Some, sym, ap, ◌∙◌}
use Rattle.std.specs.Arc.{arc_str_bytes}
use Rattle.clip_extract.specs.Keys.{Word}
use Rattle.clip_terms.specs.FieldTerms.{FieldTermsValue}
use Rattle.clip_terms.specs.Terms.{number_of}
use Rattle.clip_plan.proofs.Numbering.{number_term, term_has_number}
use Rattle.clip_plan.proofs.plans.number_of.Goals as goal

pub unreachable-requires : goal.unreachable-requires
unreachable-requires c =
    let terms = c.args.terms.now in
    let word = c.deref-2.result.now in
    let key = Word (arc_str_bytes c.args.field.now) (arc_str_bytes c.args.word.now) in
    let none : number_of terms key ≡ None =
    sym (c.in-None.ensures
    ∙ ap (λ (v : FieldTermsValue). number_of v.terms (Word v.field word)) c.of_field.ensures
    ∙ ap (λ f. number_of terms (Word f word)) c.deref.ensures.value
    ∙ ap (λ w. number_of terms (Word (arc_str_bytes c.args.field.now) w)) c.deref-2.ensures.value) in
    term_has_number terms key c.requires none

pub returns : goal.returns
returns c =
    let terms = c.args.terms.now in
    let word = c.deref-2.result.now in
    let key = Word (arc_str_bytes c.args.field.now) (arc_str_bytes c.args.word.now) in
    let found : number_of terms key ≡ Some c.in-Some.number =
    sym (c.in-Some.ensures
    ∙ ap (λ (v : FieldTermsValue). number_of v.terms (Word v.field word)) c.of_field.ensures
    ∙ ap (λ f. number_of terms (Word f word)) c.deref.ensures.value
    ∙ ap (λ w. number_of terms (Word (arc_str_bytes c.args.field.now) w)) c.deref-2.ensures.value) in
    number_term terms key c.in-Some.number found
