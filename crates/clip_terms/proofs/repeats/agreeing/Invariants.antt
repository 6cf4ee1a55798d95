use Rattle.std.proofs.Common.{ℕ, ◌≡◌, true, None, ◌+◌, ◌-◌, ◌<◌, ◌≤◌, length, get_or}
use Rattle.clip_terms.specs.Steps.Runs.{is_number}
use Rattle.clip_terms.proofs.repeats.agreeing.Given as goal

abbrev pub invariant-loop-kept : goal.invariant-loop-kept
invariant-loop-kept l = record {
  short : l.kept ≤ length l.run;
  agree : (j : ℕ) → j < l.kept → is_number (get_or l.numbers (l.start + j) None) (get_or l.run j 0) ≡ true;
}

abbrev pub decreases-loop-kept : goal.decreases-loop-kept
decreases-loop-kept l = length l.run - l.kept
