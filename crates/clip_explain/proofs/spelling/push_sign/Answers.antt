-- Answered here, so that a wrong body is refused at once.
use Rattle.std.proofs.Common.{rules}
use Rattle.clip_explain.proofs.spelling.push_sign.Goals as goal

pub returns-in_ok-push-in-MustNot : goal.returns-in_ok-push-in-MustNot
returns-in_ok-push-in-MustNot c = search rules
