-- Answered here, so that a wrong body is refused at once.
use Rattle.std.proofs.Common.{rules}
use Rattle.clip_explain.proofs.fronts.ClausesBegun.after_star.Goals as goal

pub returns-in_default : goal.returns-in_default
returns-in_default c = search rules
