use Rattle.std.proofs.Common.{◌%◌, nat_eq, Some, ap, ◌∙◌, arith}
use Rattle.std.specs.Int.{bit_at}
use Rattle.std.proofs.lemmas.Nat.Bits.{shr_and_one}
use Rattle.clip_pieces.proofs.Held.{held_flag}
use Rattle.clip_pieces.proofs.shared_flags.SharedFlags.get.Goals as goal

pub returns : goal.returns
returns c =
    let bit = c.args.place % 64 in
    rw (← c.self.view_is)
    (ap (λ n. Some (nat_eq n 1)) (shr_and_one c.word_at.result bit)
    ∙ ap (λ word. Some (nat_eq (bit_at word bit) 1)) c.word_at.ensures
    ∙ held_flag c.self.inside.len c.self.inside.words c.self.invariant c.args.place
    (omega (arith, c.if-place-self.false)))
