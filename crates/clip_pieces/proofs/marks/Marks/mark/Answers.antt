use Rattle.std.proofs.Common.{◌%◌, arith}
use Rattle.clip_pieces.proofs.Words.{bit_set, mark_bit}
use Rattle.clip_pieces.proofs.marks.Marks.mark.Goals as goal

pub invariant_of-self : goal.invariant_of-self
invariant_of-self c =
    let word = c.index_mut.result.now in
    let bits = bit_set word (c.args.number % 64) (omega arith) in
    (mark_bit c.self.inside.bound c.self.inside.words.items c.self.invariant c.args.number _ word c.if-number-self.true
    c.index_mut.ensures.value bits).0

pub returns-then-number-self : goal.returns-then-number-self
returns-then-number-self c =
    let word = c.index_mut.result.now in
    let bits = bit_set word (c.args.number % 64) (omega arith) in
    rw (← c.self.view_is) (mark_bit c.self.inside.bound c.self.inside.words.items c.self.invariant c.args.number _ word
    c.if-number-self.true c.index_mut.ensures.value bits).1
