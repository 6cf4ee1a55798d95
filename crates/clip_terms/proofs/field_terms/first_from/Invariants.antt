use Rattle.std.proofs.Common.{length, ◌-◌, ℕ, ◌<◌, ◌≤◌, get_or}
use Rattle.clip_terms.proofs.field_terms.first_from.Given as goal

abbrev pub invariant-loop-place : goal.invariant-loop-place
invariant-loop-place l = (n : ℕ) → l.from ≤ n → n < l.place → get_or l.leads n 0 < l.lead

abbrev pub decreases-loop-place : goal.decreases-loop-place
decreases-loop-place l = length l.leads - l.place
