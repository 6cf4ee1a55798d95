use Rattle.clip_extract.proofs.Covers.{covering}
use Rattle.clip_extract.proofs.laws.covering_law.Goals as goal

pub returns : goal.returns
returns c = covering
