use Rattle.std.proofs.Common.{rules}
use Rattle.clip_extract.proofs.sorting.LedKeyPartialEq.eq.Goals as goal

pub returns : goal.returns
returns c = search rules
