use Rattle.std.proofs.Common.{rules}
use Rattle.clip_extract.proofs.sorting.fn.sort_by_leads.sort_unstable_by.Goals as goal

pub returns : goal.returns
returns c = search rules
