use Rattle.std.proofs.Common.{rules}
use Rattle.clip_plan.proofs.judge.Tally.passed.Goals as goal

pub returns-then-is_needless-clause-is : goal.returns-then-is_needless-clause-is
returns-then-is_needless-clause-is c = search rules
