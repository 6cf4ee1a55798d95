use Rattle.std.proofs.Common.{rules}
use Rattle.clip_extract.proofs.extraction.next_found.Goals as goal

pub returns-in-Optional-Should : goal.returns-in-Optional-Should
returns-in-Optional-Should c = search rules
