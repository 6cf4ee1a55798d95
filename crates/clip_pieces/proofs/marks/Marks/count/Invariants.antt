use Rattle.std.proofs.Common.{◌≡◌, take}
use Rattle.clip_pieces.specs.Steps.Bits.{flags_of}
use Rattle.clip_pieces.proofs.Both.{set_of}
use Rattle.clip_pieces.proofs.marks.Marks.count.Given as goal

abbrev pub invariant-loop-word : goal.invariant-loop-word
invariant-loop-word l = l.count ≡ set_of (flags_of (take l.word-index l.word-items))
