use Rattle.std.proofs.Common.{ap₂, subst, sym, ◌∙◌}
use Rattle.clip_words.specs.Order.{bytes_cmp}
use Rattle.clip_meaning.proofs.Leads.{leads_settle}
use Rattle.clip_extract.specs.Keys.{key_of, text_of}
use Rattle.clip_terms.specs.Steps.Leads.{IsShortLength}
use Rattle.clip_extract.proofs.SortedKeys.{short_texts_tie}
use Rattle.clip_terms.proofs.heads.text_order.Goals as goal

pub returns-then-a-b : goal.returns-then-a-b
returns-then-a-b c =
    let a = c.a.inside in
    let b = c.b.inside in
    c.cmp.ensures
    ∙ leads_settle (text_of (key_of a.key.now)) (text_of (key_of b.key.now)) a.lead b.lead c.a.invariant.0
    c.b.invariant.0 c.if-a-b.true
    ∙ ap₂ (λ k l. bytes_cmp (text_of k) (text_of l)) c.a.view_is c.b.view_is

pub returns-then-a-le8 : goal.returns-then-a-le8
returns-then-a-le8 c =
    let a = c.a.inside in
    let b = c.b.inside in
    let ys = text_of (key_of b.key.now) in
    short_texts_tie (text_of (key_of a.key.now)) ys a.lead b.lead a.length c.a.invariant.0 c.b.invariant.0
    c.if-a-b.false c.a.invariant.1
    (subst (IsShortLength ys) (sym c.if-a-b-2.true) c.b.invariant.1) c.if-a-le8.true
    ∙ ap₂ (λ k l. bytes_cmp (text_of k) (text_of l)) c.a.view_is c.b.view_is
