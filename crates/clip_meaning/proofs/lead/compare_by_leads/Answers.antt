use Rattle.std.proofs.Common.{◌∙◌, rules}
use Rattle.clip_meaning.proofs.Leads.{leads_settle, leads_tie}
use Rattle.clip_meaning.proofs.lead.compare_by_leads.Goals as goal

pub returns-then-a_lead-b_lead : goal.returns-then-a_lead-b_lead
returns-then-a_lead-b_lead c = c.cmp.ensures ∙ leads_settle _ _ _ _ c.requires.a c.requires.b c.if-a_lead-b_lead.true

pub returns-then-a-le8 : goal.returns-then-a-le8
returns-then-a-le8 c = leads_tie _ _ _ _ c.requires.a c.requires.b c.if-a_lead-b_lead.false c.if-a-b.true
    c.if-a-le8.true

pub returns : goal.returns
returns c = search rules
