use Rattle.std.proofs.Common.{rules}
use Rattle.clip_plan.proofs.judge.Tally.is_needless.Goals as goal

pub returns-in-Must : goal.returns-in-Must
returns-in-Must c = search rules
