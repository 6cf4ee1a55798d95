use Rattle.clip_registry.proofs.Late.{late_merges_miss_nothing}
use Rattle.clip_registry.proofs.merging.late_merges_miss_nothing.Goals as goal

pub returns : goal.returns
returns c = late_merges_miss_nothing
