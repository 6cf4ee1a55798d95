use Rattle.std.proofs.Common.{◌∙◌, ap, sym, map, []}
use Rattle.clip_extract.specs.Keys.{Word, key_of}
use Rattle.clip_terms.specs.Terms.{number_of}
use Rattle.clip_terms.specs.FieldTerms.{FieldTermsValue}
use Rattle.clip_terms.specs.Steps.Leads.{heading}
use Rattle.clip_terms.proofs.Headings.{texts_rise, placed_number, no_number}
use Rattle.clip_terms.proofs.field_terms.FieldTerms.number_near.Goals as goal

pub place_near-requires-clause-rise : goal.place_near-requires-clause-rise
place_near-requires-clause-rise c =
    let t = c.self.inside in
    texts_rise (map key_of t.keys.now) (heading (Word t.field.now [])) t.words.start t.words.end
    c.self.invariant.strict c.self.invariant.words

pub returns-in-Some : goal.returns-in-Some
returns-in-Some c =
    let t = c.self.inside in
    sym (placed_number (map key_of t.keys.now) (Word t.field.now c.args.word.now) t.words.start t.words.end
    c.self.invariant.strict c.self.invariant.words c.in-Some.place c.in-Some.ensures)
    ∙ ap (λ (v : FieldTermsValue). number_of v.terms (Word v.field c.args.word.now)) c.self.view_is

pub returns-in-None : goal.returns-in-None
returns-in-None c =
    let t = c.self.inside in
    sym (no_number (map key_of t.keys.now) (Word t.field.now c.args.word.now) t.words.start t.words.end
    c.self.invariant.strict c.self.invariant.words c.in-None.ensures)
    ∙ ap (λ (v : FieldTermsValue). number_of v.terms (Word v.field c.args.word.now)) c.self.view_is
