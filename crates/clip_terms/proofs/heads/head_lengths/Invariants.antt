use Rattle.std.proofs.Common.{take}
use Rattle.clip_terms.specs.Steps.Leads.{AreShortLengths}
use Rattle.clip_terms.proofs.heads.head_lengths.Given as goal

abbrev pub invariant-loop-head : goal.invariant-loop-head
invariant-loop-head l = AreShortLengths (take l.head-index l.heads) l.lengths.items
