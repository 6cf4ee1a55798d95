use Rattle.std.proofs.Common.{rules, ap₂, subst, sym, ◌∙◌}
use Rattle.clip_words.specs.Order.{bytes_cmp}
use Rattle.clip_meaning.proofs.Leads.{leads_settle}
use Rattle.clip_extract.specs.Keys.{key_of, text_of}
use Rattle.clip_extract.specs.Lengths.{IsShortLength}
use Rattle.clip_extract.proofs.SortedKeys.{short_texts_tie}
use Rattle.clip_extract.proofs.sorting.LedKey.order_texts.Goals as goal

pub returns-then-self-other : goal.returns-then-self-other
returns-then-self-other c =
    c.cmp.ensures ∙ leads_settle _ _ _ _ c.self.invariant.1 c.other.invariant.1 c.if-self-other.true
    ∙ ap₂ (λ k l. bytes_cmp (text_of k) (text_of l)) c.self.view_is c.other.view_is

pub returns-then-self-le8 : goal.returns-then-self-le8
returns-then-self-le8 c =
    let a = c.self.inside in
    let b = c.other.inside in
    let ys = text_of (key_of b.key) in
    short_texts_tie (text_of (key_of a.key)) ys a.text b.text a.text_length c.self.invariant.1 c.other.invariant.1
    c.if-self-other.false c.self.invariant.3
    (subst (IsShortLength ys) (sym c.if-self-other-2.true) c.other.invariant.3) c.if-self-le8.true
    ∙ ap₂ (λ k l. bytes_cmp (text_of k) (text_of l)) c.self.view_is c.other.view_is

pub returns : goal.returns
returns c = search rules
