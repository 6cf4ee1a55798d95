use Rattle.std.proofs.Common.{◌≤◌, ◌-◌, length}
use Rattle.clip_terms.specs.Steps.Repeats.{Agree, NowhereIn}
use Rattle.clip_terms.proofs.repeats.Repeats.next_from.Given as goal

abbrev pub invariant-loop-at : goal.invariant-loop-at
invariant-loop-at l = record {
  from : l.fn.at.start ≤ l.at.start;
  short : l.at.kept ≤ length l.self.run.now;
  agree : Agree l.self.run.now l.numbers l.at;
  nowhere : NowhereIn l.self.run.now l.numbers l.fn.at.start l.at.start;
}

abbrev pub decreases-loop-at : goal.decreases-loop-at
decreases-loop-at l = length l.numbers - l.at.start
