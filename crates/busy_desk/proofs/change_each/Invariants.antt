use Rattle.clip_desk.specs.Locked.{IsSeatOf}
use Rattle.busy_desk.proofs.change_each.Given as goal

abbrev pub invariant-loop-number : goal.invariant-loop-number
invariant-loop-number g l =
    IsSeatOf g.N.DeskName.book g.N.DeskName.callers l.writer × IsSeatOf g.N.DeskName.book g.N.DeskName.callers l.reader
