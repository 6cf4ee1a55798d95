use Rattle.std.proofs.Common.{rules}
use Rattle.clip_engine.proofs.slot.Slot.clear.Goals as goal

pub returns : goal.returns
returns c = search rules
