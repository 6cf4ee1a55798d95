-- Answered here, so that a wrong body is refused at once.
use Rattle.std.proofs.Common.{rules}
use Rattle.clip_engine.proofs.ids.fn.sort_by_id.sort_unstable_by.Goals as goal

pub returns : goal.returns
returns c = search rules
