-- Answered here, so that a wrong body is refused at once.
use Rattle.std.proofs.Common.{rules}
use Rattle.clip_near.specs.Near.{near_holds}
use Rattle.clip_near.proofs.near_holds.Goals as goal

pub returns-then-is_followed-clause-near : goal.returns-then-is_followed-clause-near
unfolding near_holds
returns-then-is_followed-clause-near c = search rules
