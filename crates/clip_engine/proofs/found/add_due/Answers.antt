-- Answered here, so that a wrong body is refused at once.
use Rattle.std.proofs.Common.{rules}
use Rattle.clip_engine.proofs.found.add_due.Goals as goal

pub returns-then-shows_hits : goal.returns-then-shows_hits
returns-then-shows_hits c = search rules
