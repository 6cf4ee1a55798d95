use Rattle.std.proofs.Common.{rules}
use Rattle.clip_segment.proofs.building.ends_with.Goals as goal

pub returns-in-Some : goal.returns-in-Some
returns-in-Some c = search rules
