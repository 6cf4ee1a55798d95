-- Answered here, so that a wrong body is refused at once.
use Rattle.std.proofs.Common.{rules}
use Rattle.clip_remarks.proofs.place_rules.tells_of_place.Goals as goal

pub returns-in-AndBesideOr : goal.returns-in-AndBesideOr
returns-in-AndBesideOr c = search rules
