use Rattle.std.proofs.Common.{◌∙◌, ap, sym, map}
use Rattle.clip_extract.specs.Keys.{Word, key_of}
use Rattle.clip_terms.specs.Terms.{number_of}
use Rattle.clip_terms.specs.FieldTerms.{FieldTermsValue}
use Rattle.clip_terms.proofs.Headings.{no_number}
use Rattle.clip_terms.proofs.MarkedLeads.{unmarked_nowhere}
use Rattle.clip_terms.proofs.field_terms.FieldTerms.number.Goals as goal

pub returns-then-not-may_have : goal.returns-then-not-may_have
returns-then-not-may_have c =
    let t = c.self.inside in
    let ts = map key_of t.keys.now in
    let word = c.args.word.now in
    sym (no_number ts (Word t.field.now word) t.words.start t.words.end c.self.invariant.strict c.self.invariant.words
    (unmarked_nowhere ts t.marks.now t.words.start t.words.end word c.lead.result c.self.invariant.marks c.lead.ensures
    c.self.invariant.words.within (sym c.may_have.ensures ∙ c.if-not-may_have.true)))
    ∙ ap (λ (v : FieldTermsValue). number_of v.terms (Word v.field word)) c.self.view_is
