use Rattle.std.proofs.Common.{◌≡◌, ◌+◌, ◌<◌, ℕ, true, false, length, get_or}
use Rattle.clip_terms.specs.Steps.LeadMarks.{bit_of}
use Rattle.clip_terms.proofs.lead_marks.LeadMarks.of.Given as goal

abbrev pub invariant-loop-lead : goal.invariant-loop-lead
invariant-loop-lead l = record {
  long : length l.marks ≡ l.last + 1;
  marked : (n : ℕ) → n < l.lead-index → get_or l.marks (bit_of (get_or l.leads n 0) l.shift l.last) false ≡ true;
}
