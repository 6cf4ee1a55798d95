use Rattle.std.proofs.Common.{take, subst, sym, ap, ◌∙◌, arith}
use Rattle.std.proofs.lemmas.Grind.{div_ceil_times}
use Rattle.clip_pieces.specs.Steps.Bits.{HoldMarks, flags_of}
use Rattle.clip_pieces.proofs.Words.{none_held}
use Rattle.clip_pieces.proofs.marks.Marks.new.Goals as goal

pub invariant_of-result : goal.invariant_of-result
invariant_of-result c =
    let zeros = c.in_ok-words.ensures.items_if_clones_equal (λ y h. h) in
    let round = div_ceil_times c.args.bound 64 (omega arith) in
    subst (HoldMarks c.args.bound) (sym zeros)
    (none_held c.args.bound c.div_ceil.result (omega (arith, round, c.div_ceil.ensures))
    (omega (arith, round, c.div_ceil.ensures))).0

pub returns : goal.returns
returns c =
    let zeros = c.in_ok-words.ensures.items_if_clones_equal (λ y h. h) in
    let round = div_ceil_times c.args.bound 64 (omega arith) in
    ap (λ words. take c.args.bound (flags_of words)) zeros
    ∙ (none_held c.args.bound c.div_ceil.result (omega (arith, round, c.div_ceil.ensures))
    (omega (arith, round, c.div_ceil.ensures))).1
