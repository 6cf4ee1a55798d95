use Rattle.std.proofs.Common.{rules}
use Rattle.clip_engine.proofs.kept.Kept.take.Goals as goal

pub returns-then-room-len : goal.returns-then-room-len
returns-then-room-len c = search rules
