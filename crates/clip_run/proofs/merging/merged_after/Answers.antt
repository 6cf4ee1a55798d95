-- Answered here, so that a wrong body is refused at once.
use Rattle.clip_run.proofs.merging.merged_after.Goals as goal

pub returns-clause-merged : goal.returns-clause-merged
returns-clause-merged g c = c.have_merged.ensures
