-- Answered here, so that a wrong body is refused at once.
use Rattle.std.proofs.Common.{rules}
use Rattle.clip_meaning.proofs.Groups.{must_not_false}
use Rattle.clip_meaning.proofs.meaning.count_clause.Goals as goal

pub returns-in-MustNot-2 : goal.returns-in-MustNot-2
returns-in-MustNot-2 c = search (rules, must_not_false)
