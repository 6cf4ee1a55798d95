use Rattle.std.proofs.Common.{rules}
use Rattle.clip_plan.proofs.outline.of_first.Goals as goal

pub returns-in-Term-Must-default : goal.returns-in-Term-Must-default
returns-in-Term-Must-default c = search rules
