use Rattle.std.proofs.Common.{rules}
use Rattle.clip_desk.proofs.parts.DeskParts.new.Goals as goal

pub returns-clause-keeps : goal.returns-clause-keeps
returns-clause-keeps g c = search rules
