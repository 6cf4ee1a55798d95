use Rattle.clip_pieces.proofs.Held.{held_length}
use Rattle.clip_pieces.proofs.shared_flags.SharedFlags.len.Goals as goal

pub returns : goal.returns
returns c = rw (← c.self.view_is) (held_length c.self.inside.len c.self.inside.words c.self.invariant)
