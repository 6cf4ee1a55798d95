use Rattle.std.proofs.Common.{◌∙◌, ap, sym, map}
use Rattle.clip_extract.specs.Keys.{Word, key_of}
use Rattle.clip_terms.specs.Terms.{number_of}
use Rattle.clip_terms.specs.FieldTerms.{FieldTermsValue}
use Rattle.clip_terms.proofs.Headings.{placed_number}
use Rattle.clip_terms.proofs.field_terms.FieldTerms.number_from.Goals as goal

pub returns-then-is_at : goal.returns-then-is_at
returns-then-is_at c =
    let t = c.self.inside in
    sym (placed_number (map key_of t.keys.now) (Word t.field.now c.args.word.now) t.words.start t.words.end
    c.self.invariant.strict c.self.invariant.words c.args.likely (c.is_at.ensures c.if-is_at.true))
    ∙ ap (λ (v : FieldTermsValue). number_of v.terms (Word v.field c.args.word.now)) c.self.view_is
