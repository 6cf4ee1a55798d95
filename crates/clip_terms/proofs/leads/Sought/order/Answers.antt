use Rattle.std.proofs.Common.{◌≡◌, ℕ, List, Equal, subst, sym, ◌∙◌}
use Rattle.clip_words.specs.Order.{bytes_cmp}
use Rattle.clip_meaning.proofs.Leads.{leads_settle}
use Rattle.clip_extract.specs.Keys.{key_of, text_of}
use Rattle.clip_terms.specs.Steps.Leads.{IsShortLength}
use Rattle.clip_terms.specs.Steps.Sought.{text_sought}
use Rattle.clip_extract.proofs.SortedKeys.{short_texts_tie}
use Rattle.clip_terms.proofs.leads.Sought.order.Goals as goal

pub returns-then-lead-self : goal.returns-then-lead-self
returns-then-lead-self c =
    let text = text_of (key_of c.args.key.now) in
    let s = c.self.inside in
    subst (λ (t : List ℕ). c.cmp.result ≡ bytes_cmp text t) c.self.view_is
    (c.cmp.ensures ∙ leads_settle text (text_sought s.text) c.args.lead s.lead c.requires.lead c.self.invariant.0
    c.if-lead-self.true)

pub returns-then-length-le8 : goal.returns-then-length-le8
returns-then-length-le8 c =
    let text = text_of (key_of c.args.key.now) in
    let s = c.self.inside in
    subst (λ (t : List ℕ). Equal ≡ bytes_cmp text t) c.self.view_is
    (short_texts_tie text (text_sought s.text) c.args.lead s.lead c.args.length c.requires.lead c.self.invariant.0
    c.if-lead-self.false c.requires.length
    (subst (IsShortLength (text_sought s.text)) (sym c.if-length-self.true) c.self.invariant.1) c.if-length-le8.true)
