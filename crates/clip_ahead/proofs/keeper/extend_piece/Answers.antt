use Rattle.std.proofs.Common.{◌++◌, ◌≤◌, length, ap, ◌∙◌, arith}
use Rattle.clip_stream.specs.Steps.Reading.{cut}
use Rattle.clip_stream.proofs.Bytes.{cut_short, cut_twice}
use Rattle.clip_ahead.proofs.keeper.extend_piece.Goals as goal

pub returns-in-Ok-clause-piece : goal.returns-in-Ok-clause-piece
returns-in-Ok-clause-piece c =
    λ front e.
    let few : length c.args.piece.now.items ≤ 1048577 = omega (arith, ap length e, cut_short front) in
    c.in-Ok.ensures few ∙ ap (λ xs. cut (xs ++ c.args.bytes.now)) e ∙ cut_twice front c.args.bytes.now
