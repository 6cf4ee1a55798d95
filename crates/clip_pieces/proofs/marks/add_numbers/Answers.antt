-- The lowest bit that is set is added first, and the word is left with the others.
use Rattle.std.proofs.Common.{◌+◌, ◌-◌, [], ◌∷◌, ◌++◌, bit_and, sym, ap, ◌∙◌, append_assoc, append-nil, arith, rules}
use Rattle.std.specs.Int.Count.{count_trailing_zeros}
use Rattle.clip_pieces.specs.Marked.{marked_from}
use Rattle.clip_pieces.specs.Steps.Bits.{bits_of}
use Rattle.clip_pieces.proofs.Flags.{none_marked}
use Rattle.clip_pieces.proofs.Words.{lowest_bit, no_bits}
use Rattle.clip_pieces.proofs.marks.add_numbers.Goals as goal

pub loop-left-preserved : goal.loop-left-preserved
loop-left-preserved c =
    let before = c.loop-left.numbers.items in
    let left = c.loop-left.left in
    let first = c.args.first in
    let rest = marked_from first (bits_of 64 (bit_and left (left - 1))) in
    ap (λ ns. ns ++ rest) c.in_ok-push.ensures.items
    ∙ append_assoc before ((first + count_trailing_zeros 64 left) ∷ []) rest
    ∙ ap (λ ns. before ++ ns) (sym (lowest_bit 64 first left (omega arith) (search rules)))
    ∙ c.loop-left.invariant

pub returns : goal.returns
returns c =
    let before = c.loop-left.numbers.items in
    let first = c.args.first in
    sym (append-nil before)
    ∙ ap (λ ns. before ++ ns) (sym (ap (λ w. marked_from first (bits_of 64 w)) c.loop-left-test.false
    ∙ ap (marked_from first) (no_bits 64) ∙ none_marked first 64))
    ∙ c.loop-left.invariant
