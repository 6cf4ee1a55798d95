use Rattle.clip_desk.specs.Locked.{IsSeatOf}
use Rattle.tests.proofs.desk.four_threads.commit_steps.Given as goal

abbrev pub invariant-loop-number : goal.invariant-loop-number
invariant-loop-number g l = IsSeatOf g.N.DeskName.book g.N.DeskName.callers l.seat
