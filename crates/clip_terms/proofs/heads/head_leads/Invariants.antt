use Rattle.std.proofs.Common.{take}
use Rattle.clip_terms.specs.Steps.Leads.{AreLeads}
use Rattle.clip_terms.proofs.heads.head_leads.Given as goal

abbrev pub invariant-loop-head : goal.invariant-loop-head
invariant-loop-head l = AreLeads (take l.head-index l.heads) l.leads.items
