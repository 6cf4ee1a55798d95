use Rattle.clip_explain.proofs.Certainty.{never_holds}
use Rattle.clip_explain.proofs.laws.never_law.Goals as goal

pub returns : goal.returns
returns c = never_holds
