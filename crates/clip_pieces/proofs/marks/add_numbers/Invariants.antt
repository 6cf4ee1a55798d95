use Rattle.std.proofs.Common.{◌≡◌, ◌++◌}
use Rattle.clip_pieces.specs.Marked.{marked_from}
use Rattle.clip_pieces.specs.Steps.Bits.{bits_of}
use Rattle.clip_pieces.proofs.marks.add_numbers.Given as goal

abbrev pub invariant-loop-left : goal.invariant-loop-left
invariant-loop-left l = l.numbers.items ++ marked_from l.first (bits_of 64 l.left)
    ≡ l.fn.numbers.items ++ marked_from l.first (bits_of 64 l.word)

abbrev pub decreases-loop-left : goal.decreases-loop-left
decreases-loop-left l = l.left
