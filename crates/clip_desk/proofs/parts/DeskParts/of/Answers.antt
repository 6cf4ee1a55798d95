use Rattle.std.proofs.Common.{rules}
use Rattle.clip_desk.proofs.parts.DeskParts.of.Goals as goal

pub returns-in_default-clause-many : goal.returns-in_default-clause-many
returns-in_default-clause-many g c = search rules
