use Rattle.std.specs.Prelude.{length}
use Rattle.clip_ahead.specs.Keeping.{Takes}
use Rattle.clip_ahead.proofs.keeper.Keeper.append.Given as goal

abbrev pub invariant-lines : goal.invariant-lines
invariant-lines g l = Takes g.S.Store l.fn.self l.self l.bytes l.rest l.asks

abbrev pub decreases-lines : goal.decreases-lines
decreases-lines g l = length l.rest
