-- The item at the place is the first of those that are left.
use Rattle.std.proofs.Common.{arith}
use Rattle.clip_words.proofs.ItemsLeft.{takes}
use Rattle.clip_pieces.proofs.iter.IterIterator.next.Goals as goal

pub returns-clause-steps : goal.returns-clause-steps
returns-clause-steps g c =
    rw (← c.self.view_is) (takes c.self.inside.list.now c.self.inside.place c.get.result c.get.ensures
    (omega (arith, c.len.ensures, c.if-place-len.false, c.self.invariant)))
