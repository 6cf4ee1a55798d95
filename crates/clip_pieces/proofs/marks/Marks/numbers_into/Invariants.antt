use Rattle.std.proofs.Common.{◌≡◌, ◌*◌, take}
use Rattle.clip_pieces.specs.Marked.{marked}
use Rattle.clip_pieces.specs.Steps.Bits.{flags_of}
use Rattle.clip_pieces.proofs.marks.Marks.numbers_into.Given as goal

abbrev pub invariant-loop-word : goal.invariant-loop-word
invariant-loop-word l = record {
  first : l.first ≡ 64 * l.word-index;
  numbers : l.numbers.items ≡ marked (flags_of (take l.word-index l.word-items));
}
