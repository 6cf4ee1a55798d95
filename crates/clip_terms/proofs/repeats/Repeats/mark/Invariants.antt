use Rattle.std.proofs.Common.{◌≤◌, ◌-◌, length}
use Rattle.clip_terms.specs.Steps.Repeats.{Agree, AreMarked}
use Rattle.clip_terms.proofs.repeats.Repeats.mark.Given as goal

abbrev pub invariant-loop-found : goal.invariant-loop-found
invariant-loop-found l = record {
  short : l.at.kept ≤ length l.self.run.now;
  agree : Agree l.self.run.now l.numbers l.at;
  marked : AreMarked l.self.run.now l.numbers l.fn.flags l.flags l.at.start l.end;
}

abbrev pub decreases-loop-found : goal.decreases-loop-found
decreases-loop-found l = length l.numbers - l.at.start
