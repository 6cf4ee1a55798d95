use Rattle.std.proofs.Common.{rules}
use Rattle.clip_plan.proofs.plans.end_group.Goals as goal

pub returns : goal.returns
returns c = search rules
