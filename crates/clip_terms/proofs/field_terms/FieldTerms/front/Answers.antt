use Rattle.std.proofs.Common.{ℕ, List, [], Some, None, ◌∙◌, ap, sym, subst, map}
use Rattle.clip_meaning.specs.Leads.{IsLead}
use Rattle.clip_extract.specs.Keys.{Front, key_of}
use Rattle.clip_terms.specs.Terms.{number_of}
use Rattle.clip_terms.specs.FieldTerms.{FieldTermsValue}
use Rattle.clip_terms.specs.Steps.Leads.{heading, IsPlaceOf}
use Rattle.clip_terms.proofs.Headings.{texts_rise, placed_number, no_number}
use Rattle.clip_terms.proofs.MarkedLeads.{unmarked_nowhere}
use Rattle.clip_terms.proofs.field_terms.FieldTerms.front.Goals as goal

pub place_of-requires-clause-rise : goal.place_of-requires-clause-rise
place_of-requires-clause-rise c =
    let t = c.self.inside in
    texts_rise (map key_of t.keys.now) (heading (Front t.field.now [])) t.fronts.start t.fronts.end
    c.self.invariant.strict c.self.invariant.fronts

pub returns-in-Some : goal.returns-in-Some
returns-in-Some c =
    let t = c.self.inside in
    sym (placed_number (map key_of t.keys.now) (Front t.field.now c.args.text.now) t.fronts.start t.fronts.end
    c.self.invariant.strict c.self.invariant.fronts c.in-Some.place
    (subst (λ (text : List ℕ). IsPlaceOf (map key_of t.keys.now) t.fronts.start t.fronts.end text
    (Some c.in-Some.place)) c.of-text.ensures c.in-Some.ensures))
    ∙ ap (λ (v : FieldTermsValue). number_of v.terms (Front v.field c.args.text.now)) c.self.view_is

pub returns-in-None : goal.returns-in-None
returns-in-None c =
    let t = c.self.inside in
    sym (no_number (map key_of t.keys.now) (Front t.field.now c.args.text.now) t.fronts.start t.fronts.end
    c.self.invariant.strict c.self.invariant.fronts
    (subst (λ (text : List ℕ). IsPlaceOf (map key_of t.keys.now) t.fronts.start t.fronts.end text None)
    c.of-text.ensures c.in-None.ensures))
    ∙ ap (λ (v : FieldTermsValue). number_of v.terms (Front v.field c.args.text.now)) c.self.view_is

pub returns-then-not-may_have : goal.returns-then-not-may_have
returns-then-not-may_have c =
    let t = c.self.inside in
    let ts = map key_of t.keys.now in
    let text = c.args.text.now in
    let lead = subst (λ (s : List ℕ). IsLead s c.lead.result) c.of-text.ensures c.lead.ensures in
    sym (no_number ts (Front t.field.now text) t.fronts.start t.fronts.end c.self.invariant.strict
    c.self.invariant.fronts
    (unmarked_nowhere ts t.marks.now t.fronts.start t.fronts.end text c.lead.result c.self.invariant.marks lead
    c.self.invariant.fronts.within (sym c.may_have.ensures ∙ c.if-not-may_have.true)))
    ∙ ap (λ (v : FieldTermsValue). number_of v.terms (Front v.field text)) c.self.view_is
