use Rattle.std.proofs.Common.{rules}
use Rattle.clip_extract.proofs.extraction.loose_keys.Goals as goal

pub returns : goal.returns
returns c = search rules
