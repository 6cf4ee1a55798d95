use Rattle.std.proofs.Common.{◌≡◌, ℕ, List, subst, sym}
use Rattle.clip_meaning.proofs.Fields.{bytes_exact}
use Rattle.clip_extract.specs.Keys.{key_of, text_of}
use Rattle.clip_terms.specs.Steps.Leads.{IsShortLength}
use Rattle.clip_terms.specs.Steps.Sought.{text_sought}
use Rattle.clip_extract.proofs.SortedKeys.{short_texts_tie}
use Rattle.clip_terms.proofs.leads.Sought.is_text_of.Goals as goal

pub returns-then-length-le8 : goal.returns-then-length-le8
returns-then-length-le8 c few =
    let text = text_of (key_of c.args.key.now) in
    let s = c.self.inside in
    subst (λ (t : List ℕ). text ≡ t) c.self.view_is
    (bytes_exact text (text_sought s.text)
    (sym (short_texts_tie text (text_sought s.text) c.args.lead s.lead c.args.length c.requires.lead c.self.invariant.0
    c.if-lead-self.false c.requires.length
    (subst (IsShortLength (text_sought s.text)) (sym c.if-length-self.false) c.self.invariant.1)
    c.if-length-le8.true)))
