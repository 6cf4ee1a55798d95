-- Answered here, so that a wrong body is refused at once.
use Rattle.std.proofs.Common.{rules}
use Rattle.clip_engine.proofs.kept.listing_of.Goals as goal

pub returns-then-has_listener-clause-ok : goal.returns-then-has_listener-clause-ok
returns-then-has_listener-clause-ok c = search rules
