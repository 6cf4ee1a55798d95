use Rattle.clip_desk.proofs.EndSteps.{turns, continues_self}
use Rattle.clip_desk.proofs.ends.read.Goals as goal

pub enter_as-requires : goal.enter_as-requires
enter_as-requires g c x = turns _ _ x x (continues_self x)
