use Rattle.clip_pieces.proofs.Both.{kept_flags}
use Rattle.clip_pieces.proofs.marks.Marks.keep.Goals as goal

pub invariant_of-self : goal.invariant_of-self
invariant_of-self c = (kept_flags c.self.inside.bound c.self.inside.words.items c.keep_bits.new.words.items
    c.self.invariant c.keep_bits.ensures.length c.words.result.now c.args.flags.now c.keep_bits.ensures.bits
    c.words.ensures).0

pub returns : goal.returns
returns c =
    rw (← c.self.view_is)
    (kept_flags c.self.inside.bound c.self.inside.words.items c.keep_bits.new.words.items c.self.invariant
    c.keep_bits.ensures.length c.words.result.now c.args.flags.now c.keep_bits.ensures.bits c.words.ensures).1
