use Rattle.clip_extract.proofs.Covers.{covering_twice}
use Rattle.clip_extract.proofs.laws.second_covering_law.Goals as goal

pub returns : goal.returns
returns c = covering_twice
