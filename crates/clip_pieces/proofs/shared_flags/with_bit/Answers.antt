use Rattle.std.proofs.Common.{set, sym, ap, ◌∙◌}
use Rattle.clip_pieces.specs.Steps.Bits.{bits_of}
use Rattle.clip_pieces.proofs.Words.{bit_set, bit_cleared}
use Rattle.clip_pieces.proofs.shared_flags.with_bit.Goals as goal

pub returns-then-flag : goal.returns-then-flag
returns-then-flag c = bit_set c.args.word c.args.bit c.requires
    ∙ ap (set (bits_of 64 c.args.word) c.args.bit) (sym c.if-flag.true)

pub returns-else-flag : goal.returns-else-flag
returns-else-flag c = bit_cleared c.args.word c.args.bit c.requires
    ∙ ap (set (bits_of 64 c.args.word) c.args.bit) (sym c.if-flag.false)
