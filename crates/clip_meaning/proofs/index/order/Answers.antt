use Rattle.std.proofs.Common.{◌∙◌}
use Rattle.clip_meaning.specs.Index.{posting_cmp}
use Rattle.clip_meaning.proofs.Leads.{leads_settle_first}
use Rattle.clip_meaning.proofs.index.order.Goals as goal

pub returns-then-a-b : goal.returns-then-a-b
returns-then-a-b c =
    c.cmp.ensures ∙ leads_settle_first _ _ _ _ _ c.a.invariant c.b.invariant c.if-a-b.true
    ∙ (λ i. posting_cmp (c.a.view_is i) (c.b.view_is i))
