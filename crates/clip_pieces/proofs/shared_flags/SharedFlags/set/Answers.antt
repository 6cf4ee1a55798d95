use Rattle.std.proofs.Common.{arith}
use Rattle.std.proofs.lemmas.Result.{on_ok_weaker}
use Rattle.clip_pieces.proofs.Held.{place_held, changed_flag, changed_or_same}
use Rattle.clip_pieces.proofs.shared_flags.SharedFlags.set.Goals as goal

pub set_bit-requires : goal.set_bit-requires
set_bit-requires c =
    let low = place_held c.self.inside.len c.self.inside.words c.self.invariant c.args.self.now c.args.place
    c.self.view_is c.requires in
    omega (arith, low, c.self.invariant.0)

pub invariant_of-self : goal.invariant_of-self
invariant_of-self c =
    let low = place_held c.self.inside.len c.self.inside.words c.self.invariant c.args.self.now c.args.place
    c.self.view_is c.requires in
    changed_or_same c.self.inside.len c.self.inside.words c.self.invariant c.set_bit.result c.set_bit.new.words
    c.args.place c.args.flag low c.set_bit.ensures.ok c.set_bit.ensures.err

pub returns-clause-ok : goal.returns-clause-ok
returns-clause-ok c =
    let low = place_held c.self.inside.len c.self.inside.words c.self.invariant c.args.self.now c.args.place
    c.self.view_is c.requires in
    on_ok_weaker c.set_bit.result
    (λ flags. rw (← c.self.view_is)
    (changed_flag c.self.inside.len c.self.inside.words c.self.invariant c.set_bit.new.words c.args.place
    c.args.flag low flags).1)
    c.set_bit.ensures.ok
