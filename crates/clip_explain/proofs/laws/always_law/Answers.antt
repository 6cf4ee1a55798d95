use Rattle.clip_explain.proofs.Certainty.{always_holds}
use Rattle.clip_explain.proofs.laws.always_law.Goals as goal

pub returns : goal.returns
returns c = always_holds
