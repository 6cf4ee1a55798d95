use Rattle.clip_desk.specs.Locked.{IsSeatOf}
use Rattle.busy_desk.proofs.fill.Given as goal

abbrev pub invariant-loop-list : goal.invariant-loop-list
invariant-loop-list g l = IsSeatOf g.N.DeskName.book g.N.DeskName.callers l.seat
