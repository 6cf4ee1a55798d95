use Rattle.clip_desk.specs.Locked.{IsSeatOf}
use Rattle.tests.proofs.desk.receipts.learn_next.Given as goal

abbrev pub invariant-loop : goal.invariant-loop
invariant-loop g l = IsSeatOf g.N.DeskName.book g.N.DeskName.callers l.seat
