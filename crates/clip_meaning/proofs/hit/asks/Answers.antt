use Rattle.std.proofs.Common.{rules}
use Rattle.clip_meaning.proofs.hit.asks.Goals as goal

pub returns-in-MustNot : goal.returns-in-MustNot
returns-in-MustNot c = search rules
