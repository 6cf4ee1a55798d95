use Rattle.std.proofs.Common.{◌%◌, nat_eq, ap, ◌∙◌}
use Rattle.std.proofs.lemmas.Nat.Bits.{shr_and_one}
use Rattle.clip_pieces.proofs.Words.{read_bit}
use Rattle.clip_pieces.proofs.marks.Marks.is_marked.Goals as goal

pub returns-then-number-self : goal.returns-then-number-self
returns-then-number-self c =
    let word = c.index.result.now in
    rw (← c.self.view_is)
    (ap (λ n. nat_eq n 1) (shr_and_one word (c.args.number % 64))
    ∙ read_bit c.self.inside.bound c.self.inside.words.items c.self.invariant c.args.number word c.if-number-self.true
    c.index.ensures)
