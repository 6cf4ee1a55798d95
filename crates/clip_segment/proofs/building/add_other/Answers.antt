use Rattle.std.proofs.Common.{rules}
use Rattle.clip_segment.proofs.building.add_other.Goals as goal

pub returns-in_default : goal.returns-in_default
returns-in_default c = search rules
