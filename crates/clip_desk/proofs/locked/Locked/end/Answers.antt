use Rattle.std.proofs.Common.{rules}
use Rattle.clip_desk.proofs.locked.Locked.end.Goals as goal

pub returns-clause-legal : goal.returns-clause-legal
returns-clause-legal g c = (c.last_entry.ensures.legal, c.self.invariant.0.by)

pub returns-clause-heard : goal.returns-clause-heard
returns-clause-heard g c = search rules
