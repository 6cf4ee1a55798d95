use Rattle.std.proofs.Common.{subst}
use Rattle.clip_meaning.proofs.WordOrder.{InOrder, by_words}
use Rattle.clip_meaning.proofs.index.Postings.order_law.Goals as goal

pub returns-clause-sorted : goal.returns-clause-sorted
returns-clause-sorted c = by_words _ (subst InOrder c.self.view_is c.self.invariant.order)

pub returns-clause-in_order : goal.returns-clause-in_order
returns-clause-in_order c = subst InOrder c.self.view_is c.self.invariant.order
