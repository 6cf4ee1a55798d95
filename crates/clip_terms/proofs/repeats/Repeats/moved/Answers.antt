use Rattle.std.proofs.Common.{arith}
use Rattle.clip_terms.proofs.Repeating.{moved_on, moved_past}
use Rattle.clip_terms.proofs.repeats.Repeats.moved.Goals as goal

pub returns-in-Some : goal.returns-in-Some
returns-in-Some c = moved_on c.args.self.now.run.now c.args.at c.min-length.result c.in-Some.period
    (omega (arith, c.min-length.ensures)) c.in-Some.ensures.0 c.in-Some.ensures.2 c.in-Some.ensures.3

pub returns-in-None : goal.returns-in-None
returns-in-None c = moved_past c.args.self.now.run.now c.args.at c.min-length.result
    (omega (arith, c.min-length.ensures)) c.in-None.ensures
