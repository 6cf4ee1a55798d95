use Rattle.std.proofs.Common.{map, take}
use Rattle.clip_extract.specs.Keys.{key_of}
use Rattle.clip_terms.specs.Steps.Leads.{AreLeads}
use Rattle.clip_terms.proofs.leads.leads_of.Given as goal

abbrev pub invariant-loop-key : goal.invariant-loop-key
invariant-loop-key l = AreLeads (map key_of (take l.key-index l.keys)) l.leads.items
