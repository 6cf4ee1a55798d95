use Rattle.std.proofs.Common.{ℕ, ◌<◌, ◌≤◌, ◌+◌, ◌^◌, get_or}
use Rattle.clip_terms.proofs.field_terms.first_of_lead.Given as goal

abbrev pub invariant-loop-bits : goal.invariant-loop-bits
invariant-loop-bits l = record {
  few : l.bits < 64;
  from : l.part.start ≤ l.low;
  upto : l.low + 2 ^ l.bits ≤ l.part.end + 1;
  below : (n : ℕ) → l.part.start ≤ n → n < l.low → get_or l.leads n 0 < l.lead;
}

abbrev pub decreases-loop-bits : goal.decreases-loop-bits
decreases-loop-bits l = l.bits
