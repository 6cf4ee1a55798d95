use Rattle.clip_explain.proofs.Tried.{tried_on_all}
use Rattle.clip_explain.proofs.laws.tried_on_all_law.Goals as goal

pub returns : goal.returns
returns c = tried_on_all
