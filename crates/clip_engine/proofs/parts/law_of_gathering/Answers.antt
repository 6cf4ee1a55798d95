use Rattle.clip_engine.proofs.Gathering.{are_whole}
use Rattle.clip_engine.proofs.parts.law_of_gathering.Goals as goal

pub returns : goal.returns
returns c = are_whole c.law_of_shards.ensures.merged
