use Rattle.std.proofs.Common.{map, take}
use Rattle.clip_extract.specs.Keys.{key_of}
use Rattle.clip_terms.specs.Steps.Leads.{AreShortLengths}
use Rattle.clip_terms.proofs.leads.lengths_of.Given as goal

abbrev pub invariant-loop-key : goal.invariant-loop-key
invariant-loop-key l = AreShortLengths (map key_of (take l.key-index l.keys)) l.lengths.items
