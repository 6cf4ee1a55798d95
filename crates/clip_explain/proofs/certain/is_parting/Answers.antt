-- Answered here, so that a wrong body is refused at once.
use Rattle.std.proofs.Common.{rules}
use Rattle.clip_explain.specs.Certain.{is_parting}
use Rattle.clip_explain.proofs.certain.is_parting.Goals as goal

pub returns-in-33-6 : goal.returns-in-33-6
unfolding is_parting
returns-in-33-6 c = search rules
