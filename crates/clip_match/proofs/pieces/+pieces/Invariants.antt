use Rattle.std.proofs.Common.{◌+◌, ◌*◌}
use Rattle.clip_match.proofs.pieces.+pieces.Given as goal

abbrev pub decreases-join+arg2 : goal.decreases-join+arg2
decreases-join+arg2 g l = 2 * l.low.count + 1

abbrev pub decreases-join+arg3 : goal.decreases-join+arg3
decreases-join+arg3 g l = 2 * l.high.count + 1

abbrev pub decreases-match_from : goal.decreases-match_from
decreases-match_from g l = 2 * l.pieces.count
